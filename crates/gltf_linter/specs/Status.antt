-- The exit status.
use Rattle.std.specs.Prelude.{ℕ, zero, suc}

-- by the number of reports, or of findings that decide, and that of files that were refused
abbrev pub status_of : ℕ → ℕ → ℕ
status_of zero zero = 0
status_of (suc faults) zero = 1
status_of faults (suc refused) = 2
