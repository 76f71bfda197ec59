-- Items read in turn.
use Rattle.std.proofs.Common.{◌≡◌, ℕ, suc, List, [], ◌∷◌, ◌++◌, Option, Some, None, option_map, refl, ap, ◌∙◌}
use Rattle.serde_json.specs.Data.{Data, Items, no_items, item}
use Rattle.gltf_base.specs.declared.error.Error.{Error}
use Rattle.gltf_schema.specs.Tree.{Tree, end, with_tree, trees}
use Rattle.gltf_schema.specs.Read.{read_items}
use Rattle.gltf_schema.specs.Outcome.{Refuses}
use Rattle.gltf_schema.proofs.TakingOut.{refused_through}

-- a list, if there is one, behind the items that came before it
abbrev pub onto : {X Y : Type 0} → (X → Y → Y) → List X → Option Y → Option Y
onto cons [] r = r
onto cons (x ∷ xs) r = option_map (cons x) (onto cons xs r)

-- one item more came before
pub onto_push : {X Y : Type 0} (cons : X → Y → Y) (xs : List X) (x : X) (r : Option Y) → onto cons (xs ++ x ∷ []) r ≡ onto cons xs (option_map (cons x) r)
onto_push cons [] x r = refl
onto_push cons (y ∷ xs) x r = ap (option_map (cons y)) (onto_push cons xs x r)

-- there is no list
pub onto_none : {X Y : Type 0} (cons : X → Y → Y) (xs : List X) → onto cons xs None ≡ None
onto_none cons [] = refl
onto_none cons (x ∷ xs) = ap (option_map (cons x)) (onto_none cons xs)

-- no tree comes behind
pub onto_end : (ts : List Tree) → onto with_tree ts (Some end) ≡ Some (trees ts)
onto_end [] = refl
onto_end (x ∷ ts) = ap (option_map (with_tree x)) (onto_end ts)

-- how many items there are
abbrev pub count : Items → ℕ
count no_items = 0
count (item d ds) = suc (count ds)

pub read_next : (f : Data → Option Tree) (ts : List Tree) (t : Tree) (d : Data) (ds : Items) → f d ≡ Some t → onto with_tree (ts ++ t ∷ []) (read_items f ds) ≡ onto with_tree ts (read_items f (item d ds))
read_next f ts t d ds h = onto_push with_tree ts t (read_items f ds) ∙ ap (onto with_tree ts) (rw h refl)

pub read_stops : (e : Error) (f : Data → Option Tree) (ts : List Tree) (d : Data) (ds : Items) → Refuses e (f d) → Refuses e (onto with_tree ts (read_items f (item d ds)))
read_stops e f ts d ds h = refused_through e (f d) (onto with_tree ts (read_items f (item d ds))) (λ none. ap (onto with_tree ts) (rw none refl) ∙ onto_none with_tree ts) h
