-- How many items an array has.
use Rattle.std.proofs.Common.{◌≡◌, List, length, Some, sym, ◌∙◌, ap}
use Rattle.std.specs.Prelude.{option_map}
use Rattle.serde_json.specs.declared.value.Value.{Value}
use Rattle.serde_json.specs.Data.{Data}
use Rattle.serde_json.specs.Events.{items_len}
use Rattle.serde_json.specs.Find.{as_array}
use Rattle.serde_json.specs.View.{items_view}
use Rattle.serde_json.proofs.Views.{items_len-items_view}

pub counted : (d : Data) (vs : List Value) → Some (items_view vs) ≡ as_array d → Some (length vs) ≡ option_map items_len (as_array d)
counted d vs h = ap Some (sym (items_len-items_view vs)) ∙ ap (option_map items_len) h
