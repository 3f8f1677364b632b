-- The fields of a configuration line: Type, Path, Mode, User, Group, Age and Argument (tmpfiles.d(5)). Indices of
-- bytes are counted from 0.
use Rattle.std.specs.Prelude.{ℕ, zero, suc, ◌+◌, ◌-◌, ◌≤◌, Bool, true, ◌||◌, ◌==◌, nat_lt, List, [], ◌∷◌, ◌++◌, drop, length, slice_range, Option, Some, None, Result, Ok, Err, if◌then◌else◌, refl}
use Rattle.std.specs.Coded.{Coded, code_by, coded×, coded_list, coded_ℕ}
use Rattle.std.specs.List.{prefix_len, suffix_len, position_or_len, position}
use Rattle.pv_path.specs.Results.{◌>>=◌}
use Rattle.pv_text.specs.declared.text_fault.FieldFault.{FieldFault}
use Rattle.pv_text.specs.declared.text_fault.FieldFault.TheVariants.{BadByte, OpenQuote, GluedQuote, BadEscape, TooFew}
use Rattle.pv_text.specs.Escapes.{bad_escape, HasGoodEscapes}

-- Whether a byte is a blank: a space, a tab or a carriage return.
abbrev pub is_blank : ℕ → Bool
is_blank b = b == 32 || b == 9 || b == 13

-- Whether a byte is a double or a single quote.
abbrev pub is_quote : ℕ → Bool
is_quote b = b == 34 || b == 39

-- A part of a line: the index of its first byte, and the index after its last byte.
abbrev pub Span : Type 0
Span = ℕ × ℕ

-- The bytes of a span.
abbrev pub text_at : List ℕ → Span → List ℕ
text_at line span = slice_range line span.0 span.1

-- The index of the first closing quote in a text, if there is one. `at` is the index of the text's first byte. The
-- byte after a backslash is skipped.
abbrev pub closing : ℕ → ℕ → List ℕ → Option ℕ
closing quote at [] = None
closing quote at (b ∷ []) = if b == quote then Some at else None
closing quote at (b ∷ c ∷ bytes) =
    if b == quote then Some at
    else if b == 92 then closing quote (at + 2) bytes
    else closing quote (at + 1) (c ∷ bytes)

-- The span, if each backslash in it begins an escape. Otherwise the first bad escape is the fault.
abbrev pub escaped : List ℕ → Span → Result Span FieldFault
escaped line span = by (bad_escape 0 span.0 (text_at line span))
  where
    by : Option ℕ → Result Span FieldFault
    by None = Ok span
    by (Some at) = Err (BadEscape at)

-- Whether a field may end before these bytes: there are none, or the first one is a blank.
abbrev pub is_ended : List ℕ → Bool
is_ended [] = true
is_ended (b ∷ bytes) = is_blank b

-- A field that does not begin with a quote. It ends at the next blank, or at the end of the line. It comes with the
-- index after it.
abbrev pub bare_at : List ℕ → ℕ → Result (Span × ℕ) FieldFault
bare_at line at = do
  span ← escaped line (at, at + position_or_len is_blank (drop at line))
  Ok (span, span.1)

-- A field that begins with a quote. Its span lies between this quote and the closing one, whose index is given. The
-- faults, in this order: no closing quote, a bad escape, neither a blank nor the end after the closing quote.
abbrev pub quoted_at : List ℕ → ℕ → Option ℕ → Result (Span × ℕ) FieldFault
quoted_at line at None = Err (OpenQuote at)
quoted_at line at (Some close) = do
  span ← escaped line (at + 1, close)
  if is_ended (drop (close + 1) line) then Ok (span, close + 1) else Err (GluedQuote (close + 1))

-- The field that begins at an index: its span, and the index after it.
unfoldable pub field_at : List ℕ → ℕ → Result (Span × ℕ) FieldFault
field_at line at = by_first (drop at line)
  where
    by_first : List ℕ → Result (Span × ℕ) FieldFault
    by_first [] = bare_at line at
    by_first (b ∷ bytes) = if is_quote b then quoted_at line at (closing b (at + 1) bytes) else bare_at line at

-- The index of the next byte that is not a blank, or of the end of the line.
abbrev pub next_place : List ℕ → ℕ → ℕ
next_place line at = at + prefix_len is_blank (drop at line)

-- The Argument begins at an index and runs to the end of the line. Blanks at the end are left out, and quotes have
-- no meaning.
abbrev pub argument_at : List ℕ → ℕ → Result Span FieldFault
argument_at line at = escaped line (at, at + (length (drop at line) - suffix_len is_blank (drop at line)))

-- The spans of the fields from an index on. At most this many fields come before the Argument, and there may be
-- fewer. The first fault from the left counts.
unfoldable pub fields_from : ℕ → List ℕ → ℕ → Result (List Span) FieldFault
fields_from zero line at = if nat_lt (next_place line at) (length line) then one (argument_at line (next_place line at)) else Ok []
  where
    one : Result Span FieldFault → Result (List Span) FieldFault
    one read = do
      span ← read
      Ok (span ∷ [])
fields_from (suc left) line at = if nat_lt (next_place line at) (length line) then more (field_at line (next_place line at)) (λ after. fields_from left line after) else Ok []
  where
    more : Result (Span × ℕ) FieldFault → (ℕ → Result (List Span) FieldFault) → Result (List Span) FieldFault
    more read rest = do
      field ← read
      spans ← rest field.1
      Ok (field.0 ∷ spans)

-- The spans, if there are at least two, for Type and Path. Otherwise too few fields are the fault.
abbrev pub enough : Result (List Span) FieldFault → Result (List Span) FieldFault
enough read = do
  spans ← read
  if nat_lt (length spans) 2 then Err TooFew else Ok spans

-- The spans of the fields of a line, Type first. If it has faults, the first of these counts: a NUL byte, the first
-- fault of a field from the left, fewer than two fields. At most six fields come before the Argument.
unfoldable pub fields_of : List ℕ → Result (List Span) FieldFault
fields_of line = by_nul (position (λ b. b == 0) line)
  where
    by_nul : Option ℕ → Result (List Span) FieldFault
    by_nul (Some at) = Err (BadByte at)
    by_nul None = enough (fields_from 6 line 0)

-- What is read, with some spans before it.
abbrev pub after_spans : List Span → Result (List Span) FieldFault → Result (List Span) FieldFault
after_spans front read = do
  spans ← read
  Ok (front ++ spans)

-- A span lies in the line, and each backslash in its text begins an escape.
abbrev pub IsChecked : List ℕ → Span → Type 0
IsChecked line span = (span.0 ≤ span.1) × (span.1 ≤ length line) × HasGoodEscapes (text_at line span)

-- A line with the spans of its fields.
pub record Cut : Type 0 where
  pub line : List ℕ
  pub spans : List Span

-- How the prover stores such a line: as the pair of its two parts.
abbrev pub cut_code : Coded Cut
cut_code = code_by (List ℕ × List Span) (coded× (coded_list coded_ℕ) (coded_list (coded× coded_ℕ coded_ℕ))) (λ c. (c.line, c.spans)) (λ p. record { line = p.0; spans = p.1 }) (λ _. refl)
