-- What the reader of one kind of value answers.
use Rattle.std.specs.Prelude.{◌≡◌, ◌≢◌, ℕ, ◌/◌, ◌%◌, ◌<◌, ◌^◌, true, false, List, [], ◌∷◌, ◌++◌, map, Option, Some, None}
use Rattle.std.specs.Borrow.{Bor}
use Rattle.pv_text.specs.Facts.{is_fact_value}
use Rattle.pv_text.specs.Lines.{lacks}
use Rattle.pv_steps.specs.declared.attr.Attr.{Attr}
use Rattle.pv_steps.specs.Attributes.{are_bytes, are_attrs, is_attr}
use Rattle.pv_steps.specs.Objects.{IsTarget}
use Rattle.pv_image.specs.declared.payload.Payload.{Payload}
use Rattle.pv_path.specs.Printing.{hex_digit, is_plain_but, printed_byte_by}

-- The answer is the value that a text spells. `Is` says which values are allowed. If the answer is none, the text is
-- not the spelling of any of them.
abbrev pub Reads : {A B : Type 0} → (A → B) → (A → Type 0) → B → Option A → Type 0
Reads spelling Is text (Some x) = Is x × (text ≡ spelling x)
Reads {A = A} spelling Is text None = (x : A) → Is x → text ≢ spelling x

-- The texts that these slices show.
abbrev pub texts : {A : Type 0} → List (Bor A) → List A
texts slices = map (λ s. s.now) slices

-- A text is cut at the first occurrence of a byte: `front` is what comes before it, and `rest` what comes after it.
pub record IsCutAt (c : ℕ) (text front rest : List ℕ) : Type 0 where
  pub whole : text ≡ front ++ c ∷ rest
  pub before : lacks c front ≡ true

-- The two hexadecimal digits of a byte.
abbrev pub hex_digits : ℕ → List ℕ
hex_digits b = hex_digit (b / 16) ∷ hex_digit (b % 16) ∷ []

-- A byte is not printed as itself if the bytes `hidden` are escaped too.
abbrev pub IsEscaped : List ℕ → ℕ → Type 0
IsEscaped hidden b = (b < 256) × (is_plain_but hidden b ≡ false)

-- A byte as it is printed if the bytes `hidden` are escaped too, and then the text after it.
abbrev pub printed_with_rest : List ℕ → ℕ × List ℕ → List ℕ
printed_with_rest hidden front = printed_byte_by (is_plain_but hidden) front.0 ++ front.1

-- The first part is a byte.
abbrev pub BeginsWithByte : ℕ × List ℕ → Type 0
BeginsWithByte front = front.0 < 256

-- A byte and the text after it, as a reader answers them.
abbrev pub byte_and_rest : ℕ × Bor (List ℕ) → ℕ × List ℕ
byte_and_rest front = (front.0, front.1.now)

-- A text consists of bytes.
abbrev pub IsByteText : List ℕ → Type 0
IsByteText text = are_bytes text ≡ true

-- A text is the target of a link, and consists of bytes.
pub record IsByteTarget (text : List ℕ) : Type 0 where
  pub target : IsTarget text
  pub bytes : are_bytes text ≡ true

-- Both numbers have 32 bits.
abbrev pub AreNumbers : ℕ × ℕ → Type 0
AreNumbers numbers = (numbers.0 < 2 ^ 32) × (numbers.1 < 2 ^ 32)

-- A payload of bytes, without device numbers.
abbrev pub of_bytes : List ℕ → Payload
of_bytes bytes = record { bytes = bytes; major = 0; minor = 0 }

-- A payload of device numbers, without bytes.
abbrev pub of_numbers : ℕ × ℕ → Payload
of_numbers numbers = record { bytes = []; major = numbers.0; minor = numbers.1 }

-- An object may have this extended attribute.
abbrev pub IsAttr : Attr → Type 0
IsAttr attr = is_attr attr.name attr.value ≡ true

-- An object may have these extended attributes.
abbrev pub AreAttrs : List Attr → Type 0
AreAttrs attrs = are_attrs attrs ≡ true

-- A number is a set of file attribute flags.
abbrev pub IsLetters : ℕ → Type 0
IsLetters letters = letters < 2 ^ 15

-- A fact may have this value, and it consists of bytes.
pub record IsFactValue (value : List ℕ) : Type 0 where
  pub length_fits : is_fact_value value ≡ true
  pub bytes : are_bytes value ≡ true
