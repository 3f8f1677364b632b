-- Turns of the loops over words.
use Rattle.std.proofs.Common.{◌≡◌, ℕ, ◌+◌, ◌<◌, ◌≤◌, List, [], ◌∷◌, ◌++◌, map, length, take, drop, get_or, set, refl, sym, ap, ◌∙◌, arith}
use Rattle.std.proofs.lemmas.List.{append-nil, drop-set-lt, drop_more, map-append, take_all, take_more, take_more_set, length-set}
use Rattle.std.proofs.Math.Seq.{take-append_seam}
use Rattle.pv_glob.specs.Braces.{joined}
use Rattle.pv_glob.proofs.BraceLaws.{joined-append}

-- one word more stands before the others
pub joined_step : {A : Type 0} (firsts seconds words more : List (List A)) (first : List A) (i : ℕ) → i < length firsts → words ≡ joined (take i firsts) seconds → first ≡ get_or firsts i first → more ≡ words ++ map (λ second. first ++ second) seconds
    → more ≡ joined (take (i + 1) firsts) seconds
joined_step firsts seconds words more first i l e is added =
    let more_firsts : take (i + 1) firsts ≡ take i firsts ++ first ∷ [] = take_more firsts i first l ∙ ap (λ x. take i firsts ++ x ∷ []) (sym is) in
    rw (more_firsts, joined-append (take i firsts) (first ∷ []) seconds, added, e) (ap (λ ws. joined (take i firsts) seconds ++ ws) (sym (append-nil (map (λ second. first ++ second) seconds))))

-- what stays true while each element of a list is replaced by what f makes of it
pub record Mapping {A : Type 0} (f : A → A) (olds items : List A) (i : ℕ) : Type 0 where
  pub front : take i items ≡ map f (take i olds)
  pub back : drop i items ≡ drop i olds
  pub as_many : length items ≡ length olds

pub mapping_start : {A : Type 0} (f : A → A) (olds items : List A) → items ≡ olds → Mapping f olds items 0
mapping_start f olds items e = record { front = refl; back = ap (drop 0) e; as_many = ap length e }

pub mapping_step : {A : Type 0} (f : A → A) (olds items : List A) (i : ℕ) (x new : A) → Mapping f olds items i → i < length items → x ≡ get_or items i x → new ≡ f x → Mapping f olds (set items i new) (i + 1)
mapping_step f olds items i x new m l read is =
    let as_many = m.as_many in
    let some : i < length olds = omega arith in
    let a : drop i items ≡ x ∷ drop (i + 1) items = drop_more items i x l ∙ ap (λ y. y ∷ drop (i + 1) items) (sym read) in
    let b : drop i olds ≡ get_or olds i x ∷ drop (i + 1) olds = drop_more olds i x some in
    let both : x ∷ drop (i + 1) items ≡ get_or olds i x ∷ drop (i + 1) olds = sym a ∙ m.back ∙ b in
    let first : x ≡ get_or olds i x = ap (λ xs. get_or xs 0 x) both in
    let others : drop (i + 1) items ≡ drop (i + 1) olds = ap (drop 1) both in
    record {
      front = take_more_set items i new l ∙ ap (λ xs. xs ++ new ∷ []) m.front ∙ ap (λ y. map f (take i olds) ++ y ∷ []) (is ∙ ap f first) ∙ sym (map-append f (take i olds) (get_or olds i x ∷ [])) ∙ ap (map f) (sym (take_more olds i x some));
      back = drop-set-lt (i + 1) items i new (omega arith) ∙ others;
      as_many = length-set items i new ∙ as_many;
    }

pub mapping_end : {A : Type 0} (f : A → A) (olds items : List A) (i : ℕ) → Mapping f olds items i → length items ≤ i → items ≡ map f olds
mapping_end f olds items i m l =
    let as_many = m.as_many in
    sym (take_all i items l) ∙ m.front ∙ ap (map f) (take_all i olds (omega arith))

-- what is written back in front of nothing is the whole
pub whole_front : {A : Type 0} (items rest : List A) (n : ℕ) → n ≡ length items → take n (items ++ rest) ≡ items
whole_front items rest n e = rw e (take-append_seam items rest)
