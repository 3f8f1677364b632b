-- Texts that are cut at a byte, and texts that are joined by it.
use Rattle.std.proofs.Common.{◌≡◌, ℕ, Bool, true, ◌==◌, List, [], ◌∷◌, Option, Some, None, sym, ap, ◌∙◌, ◌≤◌, ◌<◌, length, arith}
use Rattle.std.specs.List.{list_all, slice_split, join_with_byte}
use Rattle.std.proofs.lemmas.List.Splits.{join_with_byte-slice_split}
use Rattle.std.proofs.lemmas.Bool.{and_parts}
use Rattle.pv_acl.proofs.Splitting.{split_at, split_none}
use Rattle.pv_text.specs.Lines.{lacks}
use Rattle.pv_image.specs.Reading.{Reads}

abbrev pub are_apart : ℕ → List (List ℕ) → Bool
are_apart c pieces = list_all (lacks c) pieces

-- pieces without the byte are found again after they were joined by it
pub split_join : (c : ℕ) (piece : List ℕ) (pieces : List (List ℕ)) → are_apart c (piece ∷ pieces) ≡ true → slice_split (λ b. b == c) (join_with_byte c (piece ∷ pieces)) ≡ piece ∷ pieces
split_join c piece [] e = split_none c piece (and_parts (lacks c piece) true e).0
split_join c piece (next ∷ pieces) e =
    let parts = and_parts (lacks c piece) (are_apart c (next ∷ pieces)) e in
    split_at c piece (join_with_byte c (next ∷ pieces)) parts.0 ∙ ap (λ (ps : List (List ℕ)). piece ∷ ps) (split_join c next pieces parts.1)

-- to read the pieces is to read the text
pub reads_joined : {A : Type 0} (c : ℕ) (pieces : A → List (List ℕ)) (Is : A → Type 0) (text : List ℕ) (o : Option A) → ((x : A) → Is x → slice_split (λ b. b == c) (join_with_byte c (pieces x)) ≡ pieces x)
    → Reads pieces Is (slice_split (λ b. b == c) text) o → Reads (λ x. join_with_byte c (pieces x)) Is text o
reads_joined c pieces Is text (Some x) again (is, e) = (is, sym (join_with_byte-slice_split c text) ∙ ap (join_with_byte c) e)
reads_joined c pieces Is text None again none = λ x is e. none x is (ap (slice_split (λ b. b == c)) e ∙ again x is)

-- two spellings that are the same are read alike
pub reads_same : {A B : Type 0} (f g : A → B) (Is : A → Type 0) (text : B) (o : Option A) → ((x : A) → f x ≡ g x) → Reads f Is text o → Reads g Is text o
reads_same f g Is text (Some x) same (is, e) = (is, e ∙ same x)
reads_same f g Is text None same none = λ x is e. none x is (e ∙ sym (same x))

-- a text of more pieces than any spelling has
pub reads_too_many : {A : Type 0} (c n : ℕ) (pieces : A → List (List ℕ)) (Is : A → Type 0) (text : List ℕ) → ((x : A) → Is x → slice_split (λ b. b == c) (join_with_byte c (pieces x)) ≡ pieces x) → ((x : A) → length (pieces x) ≤ n)
    → n < length (slice_split (λ b. b == c) text) → Reads {A = A} (λ x. join_with_byte c (pieces x)) Is text None
reads_too_many c n pieces Is text again few many = λ x is e.
    let same : slice_split (λ b. b == c) text ≡ pieces x = ap (slice_split (λ b. b == c)) e ∙ again x is in
    let fits = few x in
    let more : n < length (pieces x) = rw same at many in
    omega arith
