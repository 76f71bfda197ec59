-- An error is read back from its code.
use Rattle.std.proofs.Common.{◌≡◌, ℕ, List, get_or, ◌==◌, if◌then◌else◌, refl, sym, ap, ◌∙◌}
use Rattle.gltf_base.specs.Errors.{error_code}
use Rattle.gltf_base.specs.declared.validation.Error.{Error}
use Rattle.gltf_base.specs.declared.validation.Error.TheVariants.{IndexOutOfBounds, Invalid, Missing, Oversize, Unsupported}

-- the fourth letter is enough: e, a, s, r or u
abbrev error_of : List ℕ → Error
error_of code =
    let letter = get_or code 3 0 in
    if letter == 101 then IndexOutOfBounds else if letter == 97 then Invalid else if letter == 115 then Missing else if letter == 114 then Oversize else Unsupported

read_back : (e : Error) → error_of (error_code e) ≡ e
read_back IndexOutOfBounds = refl
read_back Invalid = refl
read_back Missing = refl
read_back Oversize = refl
read_back Unsupported = refl

pub same_code : (a b : Error) → error_code a ≡ error_code b → a ≡ b
same_code a b e = sym (read_back a) ∙ ap error_of e ∙ read_back b
