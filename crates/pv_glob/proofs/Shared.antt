-- The first word that two components share is their first name, where it is short enough.
use Rattle.std.proofs.Common.{◌≡◌, ℕ, ◌<◌, ◌≤◌, Bool, true, false, not, ◌&&◌, nat_le, List, length, map, refl, sym, ap, ◌∙◌, arith}
use Rattle.std.specs.List.{list_all}
use Rattle.std.proofs.lemmas.List.{length-map}
use Rattle.std.proofs.lemmas.Bool.Decides.{nat_tests}
use Rattle.std.proofs.lemmas.Bool.{and_parts}
use Rattle.std.proofs.Math.Bool.{and-false, and-true}
use Rattle.pv_path.specs.Names.{is_name, is_name_byte, is_dots, is_staging}
use Rattle.pv_glob.specs.declared.element.Element.{Element}
use Rattle.pv_glob.specs.Matching.{component_matches}
use Rattle.pv_glob.specs.Meeting.{shares}
use Rattle.pv_glob.specs.Pairs.{is_shared}
use Rattle.pv_glob.specs.Words.{IsFirst, rank, word_cmp}
use Rattle.pv_glob.proofs.Shortlex.{first_is_short}

moved : (some most named dots staged left right : Bool)
    → (((((some && most) && named) && dots) && staged) && left && right) ≡ (((((some && named) && dots) && staged) && left && right) && most)
moved false most named dots staged left right = refl
moved true false named dots staged left right = sym (and-false (((named && dots) && staged) && left && right))
moved true true named dots staged left right = sym (and-true (((named && dots) && staged) && left && right))

pub shares_is : (a b : List Element) (word : List ℕ) → shares a b word ≡ (is_shared a b word && nat_le (length word) 255)
shares_is a b word =
    moved (nat_le 1 (length word)) (nat_le (length word) 255) (list_all is_name_byte word) (not (is_dots word)) (not (is_staging word)) (component_matches a word) (component_matches b word)

module _ (a b : List Element) where
  -- what is shared is a name where it is short enough
  pub shared_name : (word : List ℕ) → is_shared a b word ≡ true → length word ≤ 255 → is_name word ≡ true
  shared_name word e l =
      let short : nat_le (length word) 255 ≡ true = grind (arith, nat_tests) in
      let all : shares a b word ≡ true = shares_is a b word ∙ ap (λ t. t && nat_le (length word) 255) e ∙ short in
      let w = and_parts (is_name word && not (is_staging word) && component_matches a word) (component_matches b word) all in
      let v = and_parts (is_name word && not (is_staging word)) (component_matches a word) w.0 in
      (and_parts (is_name word) (not (is_staging word)) v.0).0

  none_shared : (word : List ℕ) (t : Bool) → is_shared a b word ≡ t → ((is_shared a b word ≡ true) → nat_le (length word) 255 ≡ false) → shares a b word ≡ false
  none_shared word true e long = shares_is a b word ∙ ap (λ t. is_shared a b word && t) (long e) ∙ and-false (is_shared a b word)
  none_shared word false e long = shares_is a b word ∙ ap (λ t. t && nat_le (length word) 255) e

  -- no word, no name
  pub no_name : ((word : List ℕ) → is_shared a b word ≡ false) → (name : List ℕ) → shares a b name ≡ false
  no_name none name = shares_is a b name ∙ ap (λ t. t && nat_le (length name) 255) (none name)

  module _ (word : List ℕ) (first : IsFirst word_cmp (is_shared a b) word) where
    -- a first word that is too long leaves no name
    pub too_long : 255 < length word → (name : List ℕ) → shares a b name ≡ false
    too_long l name = none_shared name (is_shared a b name) refl (λ e.
        let s = first_is_short (map rank word) (map rank name) (first.least name e) in
        let c = length-map word rank in let d = length-map name rank in
        let long : 255 < length name = omega (arith, s, c, d) in grind (arith, nat_tests))

    pub first_short : length word ≤ 255 → IsFirst word_cmp (shares a b) word
    first_short l = record {
      passes = (let short : nat_le (length word) 255 ≡ true = grind (arith, nat_tests) in shares_is a b word ∙ ap (λ t. t && nat_le (length word) 255) first.passes ∙ short);
      least = λ other e. first.least other (and_parts (is_shared a b other) (nat_le (length other) 255) (sym (shares_is a b other) ∙ e)).0;
    }
