-- What an event says of a move, and what a look sees of it.
use Rattle.std.specs.Prelude.{◌≡◌, ⊤, true, false}
use Rattle.gltf_base.specs.Steps.{step_of}
use Rattle.gltf_validation_rules.specs.Context.{Context}
use Rattle.gltf_validation_objects.specs.ValueRefs.{checklist_of}
use Rattle.gltf_validation_objects.specs.Checklist.{Move, down, fault, over, quiet}
use Rattle.gltf_validation_objects.specs.declared.look.Look.{Look}
use Rattle.gltf_validation_objects.specs.declared.look.Look.TheVariants as look
use Rattle.gltf_validation_objects.specs.declared.event.Event.{Event}
use Rattle.gltf_validation_objects.specs.declared.event.Event.TheVariants as event

-- the move of an event
abbrev pub move_of : Context → Event → Move
move_of context (event.Enter s q) = down (step_of s) (checklist_of context q)
move_of context (event.Fault e) = fault e
move_of context event.End = over

-- an event that is not the end
abbrev pub IsMore : Event → Type 0
IsMore event.End = ⊥
IsMore _ = ⊤

-- the event is the move
abbrev pub IsGiven : Context → Move → Event → Type 0
IsGiven context move n = move_of context n ≡ move

-- what a look sees of a move: a step to a quiet value is `Quiet`, the end is `Over`, and any other move is `Faulty`
abbrev pub IsSeen : Move → Look → Type 0
IsSeen (down s p) look.Quiet = quiet p ≡ true
IsSeen (down s p) look.Faulty = quiet p ≡ false
IsSeen (fault e) look.Faulty = ⊤
IsSeen over look.Over = ⊤
IsSeen _ _ = ⊥

-- a look that is not the end
abbrev pub IsSomething : Look → Type 0
IsSomething look.Over = ⊥
IsSomething _ = ⊤
