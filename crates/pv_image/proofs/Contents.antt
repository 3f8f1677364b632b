-- The bytes of a file in Base64, and the other payloads.
use Rattle.std.proofs.Common.{◌≡◌, ◌≢◌, ℕ, zero, suc, ◌<◌, ◌%◌, ◌/◌, ◌*◌, ◌+◌, Bool, true, false, not, ◌==◌, nat_lt, List, [], ◌∷◌, length, get_or, replicate, Option, Some, None, option_map, codes, refl, sym, ◌∙◌, subst, inl, inr, ◌⊎◌, arith, ◌++◌, ◌≤◌, take, drop, ap, append_assoc}
use Rattle.std.specs.List.{list_all}
use Rattle.std.proofs.lemmas.Bool.Decides.{nat_tests}
use Rattle.std.proofs.lemmas.List.{length-take-le, take-append-drop}
use Rattle.std.proofs.lemmas.Bool.{and_parts, and_from}
use Rattle.base64.proofs.EngineFacts.{encode_of-append}
use Rattle.base64.specs.GeneralPurpose.{IsBytes, encode_of}
use Rattle.base64.specs.Engines.{standard}
use Rattle.base64.specs.Rfc4648.{encode_symbols, padding_len}
use Rattle.pv_steps.specs.declared.node.Kind.{Kind}
use Rattle.pv_steps.specs.declared.node.Kind.TheVariants.{Directory, Fifo, CharDevice, BlockDevice}
use Rattle.pv_steps.specs.Attributes.{are_bytes}
use Rattle.pv_image.specs.Spelling.{IsPayload, content_text, numbers_text, payload_text}
use Rattle.pv_image.specs.Reading.{AreNumbers, IsByteText, Reads, of_bytes, of_numbers}
use Rattle.pv_text.proofs.Characters.{all_append}

-- ---- bytes, by index and as a test

byte_is : (b : ℕ) → b < 256 → nat_lt b 256 ≡ true
byte_is b h = grind (arith, nat_tests)

pub byte_below : (b : ℕ) → nat_lt b 256 ≡ true → b < 256
byte_below b h = grind (arith, nat_tests)

pub bytes_all : (bytes : List ℕ) → IsBytes bytes → are_bytes bytes ≡ true
bytes_all [] h = refl
bytes_all (b ∷ bytes) h = and_from (nat_lt b 256) (are_bytes bytes) (byte_is b (h 0)) (bytes_all bytes (λ i. h (suc i)))

pub all_bytes : (bytes : List ℕ) → are_bytes bytes ≡ true → IsBytes bytes
all_bytes [] e i = omega arith
all_bytes (b ∷ bytes) e zero = byte_below b (and_parts (nat_lt b 256) (are_bytes bytes) e).0
all_bytes (b ∷ bytes) e (suc i) = all_bytes bytes (and_parts (nat_lt b 256) (are_bytes bytes) e).1 i

-- ---- Base64

get_or_all : (p : ℕ → Bool) → p 0 ≡ true → (xs : List ℕ) → list_all p xs ≡ true → (i : ℕ) → p (get_or xs i 0) ≡ true
get_or_all p z [] e i = z
get_or_all p z (x ∷ xs) e zero = (and_parts (p x) (list_all p xs) e).0
get_or_all p z (x ∷ xs) e (suc i) = get_or_all p z xs (and_parts (p x) (list_all p xs) e).1 i

-- what the 64 symbols pass
module _ (p : ℕ → Bool) (z : p 0 ≡ true) (t : List ℕ) (table : list_all p t ≡ true) where
  at : (i : ℕ) → p (get_or t i 0) ≡ true
  at i = get_or_all p z t table i

  pub symbols_all : (m : List ℕ) → list_all p (encode_symbols t m) ≡ true
  unfolding encode_symbols
  symbols_all [] = refl
  symbols_all (a ∷ []) = rw (at (a / 4), at (a % 4 * 16)) refl
  symbols_all (a ∷ b ∷ []) = rw (at (a / 4), at (a % 4 * 16 + b / 16), at (b % 16 * 4)) refl
  symbols_all (a ∷ b ∷ c ∷ rest) = rw (at (a / 4), at (a % 4 * 16 + b / 16), at (b % 16 * 4 + c / 64), at (c % 64), symbols_all rest) refl

padding_all : (p : ℕ → Bool) → p 61 ≡ true → (n : ℕ) → list_all p (replicate n 61) ≡ true
padding_all p e zero = refl
padding_all p e (suc n) = and_from (p 61) (list_all p (replicate n 61)) e (padding_all p e n)

pub encoded_all : (p : ℕ → Bool) → p 0 ≡ true → p 61 ≡ true → list_all p standard.encode_table ≡ true → (m : List ℕ) → list_all p (encode_of standard m) ≡ true
encoded_all p z pad table m = all_append p (encode_symbols standard.encode_table m) (replicate (padding_len (length m)) 61) (symbols_all p z standard.encode_table table m) (padding_all p pad (padding_len (length m)))

encoded_nothing : encode_of standard [] ≡ []
unfolding encode_symbols
encoded_nothing = refl

encoded_some : (b : ℕ) (m : List ℕ) → encode_of standard (b ∷ m) ≢ []
unfolding encode_symbols
encoded_some b [] e = cc
encoded_some b (c ∷ []) e = cc
encoded_some b (c ∷ d ∷ m) e = cc

pub encoded_no_dash : (m : List ℕ) → encode_of standard m ≢ codes "-"
encoded_no_dash m e =
    let all : list_all (λ c. not (c == 45)) (encode_of standard m) ≡ true = encoded_all (λ c. not (c == 45)) refl refl refl m in
    let bad : list_all (λ c. not (c == 45)) (codes "-") ≡ true = rw e at all in
    let is : list_all (λ c. not (c == 45)) (codes "-") ≡ false = refl in
    cc

-- the first bytes, some threes, are encoded, and then the others
pub encoded_more : (whole old new rest front back : List ℕ) → 768 ≤ length rest → whole ≡ old ++ encode_of standard rest → front ≡ take 768 rest → back ≡ drop 768 rest → new ≡ old ++ encode_of standard front → whole ≡ new ++ encode_of standard back
encoded_more whole old new rest front back long so_far is others grown =
    let threes : length (take 768 rest) % 3 ≡ 0 = rw (length-take-le 768 rest long) refl in
    let parts : encode_of standard rest ≡ encode_of standard front ++ encode_of standard back =
    ap (encode_of standard) (sym (take-append-drop 768 rest)) ∙ encode_of-append standard (take 768 rest) (drop 768 rest) threes
    ∙ ap (λ (t : List ℕ). encode_of standard t ++ encode_of standard (drop 768 rest)) (sym is) ∙ ap (λ (t : List ℕ). encode_of standard front ++ encode_of standard t) (sym others) in
    so_far ∙ ap (λ (t : List ℕ). old ++ t) parts ∙ sym (append_assoc old (encode_of standard front) (encode_of standard back)) ∙ ap (λ (t : List ℕ). t ++ encode_of standard back) (sym grown)

-- no text, and the dash, beside what Base64 reads
pub nothing_reads : Reads content_text IsByteText [] None
nothing_reads [] is e = cc
nothing_reads (b ∷ bytes) is e = encoded_some b bytes (sym e)

pub content_reads : (text : List ℕ) → text ≢ [] → text ≢ codes "-" → (o : Option (List ℕ)) → Reads (encode_of standard) IsByteText text o → Reads content_text IsByteText text o
content_reads text some other (Some []) (is, e) = absurd (some (e ∙ encoded_nothing))
content_reads text some other (Some (b ∷ bytes)) (is, e) = (is, e)
content_reads text some other None none = by_bytes
  where
    by_bytes : (x : List ℕ) → IsByteText x → text ≢ content_text x
    by_bytes [] is e = other e
    by_bytes (b ∷ bytes) is e = none (b ∷ bytes) is e

-- ---- payloads by kind

char_reads : (text : List ℕ) (o : Option (ℕ × ℕ)) → Reads numbers_text AreNumbers text o → Reads (payload_text CharDevice) (IsPayload CharDevice) text (option_map of_numbers o)
char_reads text None none = λ x is e. none (x.major, x.minor) is.numbers e
char_reads text (Some numbers) (is, e) = (record { fits = refl; are_bytes = refl; numbers = is }, e)

block_reads : (text : List ℕ) (o : Option (ℕ × ℕ)) → Reads numbers_text AreNumbers text o → Reads (payload_text BlockDevice) (IsPayload BlockDevice) text (option_map of_numbers o)
block_reads text None none = λ x is e. none (x.major, x.minor) is.numbers e
block_reads text (Some numbers) (is, e) = (record { fits = refl; are_bytes = refl; numbers = is }, e)

abbrev nothing : List ℕ → List ℕ
nothing bytes = codes "-"

directory_reads : (text : List ℕ) (o : Option (List ℕ)) → Reads nothing (λ bytes. bytes ≡ []) text o → Reads (payload_text Directory) (IsPayload Directory) text (option_map of_bytes o)
directory_reads text None none = λ x is e. none [] refl e
directory_reads text (Some bytes) (is, e) = (record { fits = is; are_bytes = rw is refl; numbers = (refl, refl) }, e)

fifo_reads : (text : List ℕ) (o : Option (List ℕ)) → Reads nothing (λ bytes. bytes ≡ []) text o → Reads (payload_text Fifo) (IsPayload Fifo) text (option_map of_bytes o)
fifo_reads text None none = λ x is e. none [] refl e
fifo_reads text (Some bytes) (is, e) = (record { fits = is; are_bytes = rw is refl; numbers = (refl, refl) }, e)

pub device_reads : (kind : Kind) (text : List ℕ) (o : Option (ℕ × ℕ)) → (kind ≡ CharDevice) ⊎ (kind ≡ BlockDevice) → Reads numbers_text AreNumbers text o → Reads (payload_text kind) (IsPayload kind) text (option_map of_numbers o)
device_reads kind text o (inl is) read = subst (λ (k : Kind). Reads (payload_text k) (IsPayload k) text (option_map of_numbers o)) (sym is) (char_reads text o read)
device_reads kind text o (inr is) read = subst (λ (k : Kind). Reads (payload_text k) (IsPayload k) text (option_map of_numbers o)) (sym is) (block_reads text o read)

pub other_reads : (kind : Kind) (text : List ℕ) (o : Option (List ℕ)) → (kind ≡ Directory) ⊎ (kind ≡ Fifo) → Reads nothing (λ bytes. bytes ≡ []) text o → Reads (payload_text kind) (IsPayload kind) text (option_map of_bytes o)
other_reads kind text o (inl is) read = subst (λ (k : Kind). Reads (payload_text k) (IsPayload k) text (option_map of_bytes o)) (sym is) (directory_reads text o read)
other_reads kind text o (inr is) read = subst (λ (k : Kind). Reads (payload_text k) (IsPayload k) text (option_map of_bytes o)) (sym is) (fifo_reads text o read)
