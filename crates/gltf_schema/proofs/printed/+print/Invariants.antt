use Rattle.std.proofs.Common.{◌≡◌, List, ◌++◌, drop}
use Rattle.json.specs.Token.{Token}
use Rattle.serde_json.specs.View.{items_view}
use Rattle.serde_json.specs.Written.{WritesItems}
use Rattle.serde_json.proofs.Views.{Entry}
use Rattle.gltf_schema.proofs.PartsPrinted.{Reaches}
use Rattle.gltf_schema.proofs.printed.+print.Given as goal

-- what prints the other items and the end prints all of them and the end
abbrev pub invariant-print_items-loop-item : goal.invariant-print_items-loop-item
invariant-print_items-loop-item g l =
    (g.W.Tokens.before l.out ≡ g.W.Tokens.before l.initial.out)
    × ((end : List Token) → WritesItems (items_view (drop l.item-index l.item-items)) (g.W.Tokens.written l.out) end → WritesItems (items_view l.item-items) (g.W.Tokens.written l.initial.out) end)

-- what prints the other members and the end prints all of them and the end
abbrev pub invariant-print_members-loop-name : goal.invariant-print_members-loop-name
invariant-print_members-loop-name g l =
    (g.W.Tokens.before l.out ≡ g.W.Tokens.before l.initial.out)
    × (done : List Entry) × (l.members.entries ≡ done ++ l.name-iterator) × Reaches l.members.entries done l.name-iterator (g.W.Tokens.written l.initial.out) (g.W.Tokens.written l.out)
