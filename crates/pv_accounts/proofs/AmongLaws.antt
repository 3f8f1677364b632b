-- Names of entries that are looked up in a set, line after line.
use Rattle.std.proofs.Common.{◌≡◌, Bool, true, false, ◌||◌, refl, cond}

pub cond_or : (b c : Bool) → cond b true c ≡ (b || c)
cond_or true c = refl
cond_or false c = refl
