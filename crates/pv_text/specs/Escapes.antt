-- Escapes in the fields of a configuration line (tmpfiles.d(5)). A backslash and what follows it stand for one byte.
-- The table of escapes is this project's own.
use Rattle.std.specs.Prelude.{◌≡◌, ℕ, zero, suc, ◌+◌, ◌*◌, ◌&&◌, ◌==◌, nat_le, List, [], ◌∷◌, codes, Option, Some, None, if◌then◌else◌}
use Rattle.std.specs.List.{zip}
use Rattle.std.specs.Map.{lookup}
use Rattle.std.specs.Char.{is_digit, digit_value}

-- The byte that one letter after a backslash stands for: `\a` bell, `\b` backspace, `\f` form feed, `\n` line feed,
-- `\r` carriage return, `\t` tab, `\v` vertical tab and `\s` space. A backslash and the two quotes stand for
-- themselves.
abbrev pub named_escape : ℕ → Option ℕ
named_escape letter = lookup (λ l. letter == l) (zip (codes "abfnrtv\\\"'s") (7 ∷ 8 ∷ 12 ∷ 10 ∷ 13 ∷ 9 ∷ 11 ∷ 92 ∷ 34 ∷ 39 ∷ 32 ∷ []))

-- The byte that a number stands for, if it is from 1 to 255.
abbrev pub numbered : ℕ → Option ℕ
numbered n = if nat_le 1 n && nat_le n 255 then Some n else None

-- The byte that two hexadecimal digits stand for, upper or lower case. It is not NUL.
abbrev pub hex_escape : ℕ → ℕ → Option ℕ
hex_escape h l = if is_digit h 16 && is_digit l 16 then numbered (digit_value h * 16 + digit_value l) else None

-- The byte that three octal digits stand for, from 1 to 255.
abbrev pub octal_escape : ℕ → ℕ → ℕ → Option ℕ
octal_escape a b c = if is_digit a 8 && is_digit b 8 && is_digit c 8 then numbered ((digit_value a * 8 + digit_value b) * 8 + digit_value c) else None

-- The byte, if there is one, with the number of bytes that its escape takes after the backslash.
abbrev pub taking : ℕ → Option ℕ → Option (ℕ × ℕ)
taking n None = None
taking n (Some byte) = Some (byte, n)

-- The byte that `x` and two hexadecimal digits stand for, or three octal digits. Both take three bytes.
abbrev pub digits_escape : List ℕ → Option (ℕ × ℕ)
digits_escape (a ∷ b ∷ c ∷ bytes) = taking 3 (if a == 120 then hex_escape b c else octal_escape a b c)
digits_escape _ = None

-- The escape that these bytes after a backslash begin with: the byte that it stands for, and how many of the bytes
-- it takes. A letter of the table takes one. There may be no escape.
abbrev pub escape_of : List ℕ → Option (ℕ × ℕ)
escape_of [] = None
escape_of (b ∷ bytes) = named (named_escape b)
  where
    named : Option ℕ → Option (ℕ × ℕ)
    named (Some byte) = Some (byte, 1)
    named None = digits_escape (b ∷ bytes)

-- What the byte `b` with the bytes after it stands for, and how many of those it takes. A backslash begins an
-- escape. Any other byte stands for itself and takes none.
abbrev pub unit_of : ℕ → List ℕ → Option (ℕ × ℕ)
unit_of b after = if b == 92 then escape_of after else Some (b, 0)

-- The index of the first backslash that begins no escape, if there is one. `at` is the index of the text's first
-- byte. The first `taken` bytes belong to an escape before them.
abbrev pub bad_escape : ℕ → ℕ → List ℕ → Option ℕ
bad_escape taken at [] = None
bad_escape (suc taken) at (b ∷ bytes) = bad_escape taken (at + 1) bytes
bad_escape zero at (b ∷ bytes) = by_unit (unit_of b bytes) (λ taken. bad_escape taken (at + 1) bytes)
  where
    by_unit : Option (ℕ × ℕ) → (ℕ → Option ℕ) → Option ℕ
    by_unit None rest = Some at
    by_unit (Some u) rest = rest u.1

-- Each backslash of a text begins an escape, unless it belongs to an escape before it.
abbrev pub HasGoodEscapes : List ℕ → Type 0
HasGoodEscapes text = bad_escape 0 0 text ≡ None

-- A text with each escape replaced by the byte that it stands for. The first `taken` bytes belong to an escape
-- before them. A backslash that begins no escape is left out.
abbrev pub undone : ℕ → List ℕ → List ℕ
undone taken [] = []
undone (suc taken) (b ∷ bytes) = undone taken bytes
undone zero (b ∷ bytes) = by_unit (unit_of b bytes) (λ taken. undone taken bytes)
  where
    by_unit : Option (ℕ × ℕ) → (ℕ → List ℕ) → List ℕ
    by_unit None rest = rest 0
    by_unit (Some u) rest = u.0 ∷ rest u.1

-- A text with each escape replaced by its byte. Example: `a\x20b` becomes `a b`.
abbrev pub unescaped : List ℕ → List ℕ
unescaped text = undone 0 text
