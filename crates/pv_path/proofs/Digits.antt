-- Texts of digits.
use Rattle.std.proofs.Common.{◌≡◌, ℕ, zero, suc, true, List, [], ◌∷◌, arith}
use Rattle.std.proofs.lemmas.Str.{IsUtf8-from_ascii}
use Rattle.std.proofs.lemmas.Str.Parse.{tells_all_ascii_digits}
use Rattle.std.specs.Str.{IsAscii, IsUtf8, all_ascii_digits}

digits-ascii : (bs : List ℕ) → all_ascii_digits bs ≡ true → IsAscii bs
digits-ascii [] h i = search arith
digits-ascii (c ∷ cs) h zero = let first = (tells_all_ascii_digits.parts c cs h).0 in omega arith
digits-ascii (c ∷ cs) h (suc i) = digits-ascii cs (tells_all_ascii_digits.parts c cs h).1 i

pub digits-utf8 : (bs : List ℕ) → all_ascii_digits bs ≡ true → IsUtf8 bs
digits-utf8 bs h = IsUtf8-from_ascii bs (digits-ascii bs h)
