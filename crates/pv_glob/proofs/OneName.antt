-- A component of written bytes matches them alone, so its name is the only one that it shares.
use Rattle.std.proofs.Common.{◌≡◌, ℕ, Bool, true, false, not, ◌&&◌, ◌||◌, ◌==◌, List, [], ◌∷◌, ◌++◌, map, Option, Some, None, option_map, if◌then◌else◌, refl, sym, ap, ◌∙◌, subst, arith}
use Rattle.std.specs.Prelude.{IfOk, IfSome, IsNone, Result}
use Rattle.std.specs.Ordering.{is_gt}
use Rattle.std.proofs.lemmas.Bool.Decides.{nat_tests}
use Rattle.std.proofs.lemmas.Bool.{and_parts}
use Rattle.std.proofs.lemmas.Option.{same_Some}
use Rattle.std.proofs.Math.Bool.{and-true}
use Rattle.pv_path.specs.Names.{is_name, is_staging}
use Rattle.pv_glob.specs.declared.element.Element.{Element}
use Rattle.pv_glob.specs.declared.element.Element.TheVariants.{Byte, Any, Many, OneOf}
use Rattle.pv_glob.specs.Matching.{component_matches, matches, name_matches}
use Rattle.pv_glob.specs.Meeting.{shares}
use Rattle.pv_glob.specs.Words.{IsFirst, rank, word_cmp}
use Rattle.pv_glob.specs.Written.{name_by, written}
use Rattle.pv_glob.proofs.Reaches.{shares_facts}
use Rattle.pv_glob.proofs.Shortlex.{same_is_first}
use Rattle.pv_path.proofs.Tests.{same_number, if_ok}

abbrev Never : Type 0
Never = ◌≡◌ {A = Bool} false true

-- written bytes match themselves alone
pub written_alone : (elements : List Element) (name other : List ℕ) (first : Bool) → written elements ≡ Some name → name_matches elements first other ≡ true → name ≡ other
written_alone [] name [] first e m = sym (same_Some [] name e)
written_alone [] name (c ∷ other) first e m = absurd (let differ : Never = m in cc)
written_alone (Byte b ∷ elements) name [] first e m = absurd (let differ : Never = m in cc)
written_alone (Byte b ∷ elements) name (c ∷ other) first e m = by (written elements) refl e (λ bytes is. written_alone elements bytes other false is (and_parts (c == b) (name_matches elements false other) m).1)
  where
    by : (o : Option (List ℕ)) → written elements ≡ o → option_map (λ bytes. b ∷ bytes) o ≡ Some name → ((bytes : List ℕ) → written elements ≡ Some bytes → bytes ≡ other) → name ≡ c ∷ other
    by None is f on = cc
    by (Some bytes) is f on =
        let test = (and_parts (c == b) (name_matches elements false other) m).0 in
        let same : b ≡ c = grind (arith, nat_tests) in
        sym (same_Some (b ∷ bytes) name f) ∙ ap (λ x. x ∷ bytes) same ∙ ap (λ (x : List ℕ). c ∷ x) (on bytes is)
written_alone (Any ∷ elements) name other first e m = cc
written_alone (Many ∷ elements) name other first e m = cc
written_alone (OneOf set ∷ elements) name other first e m = cc

written_matches : (elements : List Element) (name : List ℕ) (first : Bool) → written elements ≡ Some name → name_matches elements first name ≡ true
written_matches [] name first e = subst (λ (x : List ℕ). name_matches [] first x ≡ true) (same_Some [] name e) refl
written_matches (Byte b ∷ elements) name first e = by (written elements) e (λ bytes is. written_matches elements bytes false is) refl
  where
    by : (o : Option (List ℕ)) → option_map (λ bytes. b ∷ bytes) o ≡ Some name → ((bytes : List ℕ) → written elements ≡ Some bytes → name_matches elements false bytes ≡ true) → written elements ≡ o → name_matches (Byte b ∷ elements) first name ≡ true
    by None f on is = cc
    by (Some bytes) f on is =
        subst (λ (x : List ℕ). name_matches (Byte b ∷ elements) first x ≡ true) (same_Some (b ∷ bytes) name f) (ap (λ (t : Bool). t && name_matches elements false bytes) (same_number b) ∙ on bytes is)
written_matches (Any ∷ elements) name first e = cc
written_matches (Many ∷ elements) name first e = cc
written_matches (OneOf set ∷ elements) name first e = cc

one_matches : (component : List Element) (name : List ℕ) → is_staging name ≡ false → matches (component ∷ []) (name ∷ []) ≡ component_matches component name
one_matches component name clear =
    ap (λ (t : Bool). not (t || false) && (component_matches component name && true)) clear ∙ and-true (component_matches component name)

-- a pattern of one component matches a path of one name
pub one_is : (plain root : List (List Element)) (component copy : List Element) (name other : List ℕ) → root ≡ [] → plain ≡ root ++ copy ∷ [] → copy ≡ component → other ≡ name → is_staging name ≡ false
    → matches plain (other ∷ []) ≡ component_matches component name
one_is plain root component copy name other none pushed same given clear =
    ap (λ (x : List (List Element)). matches x (other ∷ [])) (pushed ∙ ap (λ (x : List (List Element)). x ++ copy ∷ []) none ∙ ap (λ (x : List Element). x ∷ []) same)
    ∙ ap (λ (x : List ℕ). matches (component ∷ []) (x ∷ [])) given ∙ one_matches component name clear

-- ---- the only name that may be shared

module _ (a b : List Element) (name : List ℕ) where
  abbrev OneFound : Option (List ℕ) → Type 0
  OneFound found = (IsNone found → (other : List ℕ) → shares a b other ≡ false) × IfSome found (IsFirst word_cmp (shares a b))

  one_found : ((other : List ℕ) → shares a b other ≡ true → other ≡ name) → (found : Option (List ℕ)) → found ≡ (if shares a b name then Some name else None) → OneFound found
  one_found only found e = by (shares a b name) refl found e
    where
      none : shares a b name ≡ false → (other : List ℕ) (t : Bool) → shares a b other ≡ t → t ≡ false
      none not_own other true e = absurd (let differ : Never = sym not_own ∙ ap (shares a b) (sym (only other e)) ∙ e in cc)
      none not_own other false e = refl

      first : shares a b name ≡ true → IsFirst word_cmp (shares a b) name
      first own = record {
        passes = own;
        least = λ other e. subst (λ (x : List ℕ). is_gt (word_cmp name x) ≡ false) (sym (only other e)) (same_is_first (map rank name));
      }

      by : (t : Bool) → shares a b name ≡ t → (o : Option (List ℕ)) → o ≡ (if t then Some name else None) → OneFound o
      by true own None f = absurd (let no : None ≡ Some name = f in cc)
      by true own (Some word) f = (λ e. absurd (let differ : Never = sym e in cc), subst (IsFirst word_cmp (shares a b)) (sym (same_Some word name f)) (first own))
      by false not_own None f = (λ _ other. none not_own other (shares a b other) refl, tt)
      by false not_own (Some word) f = absurd (let no : Some word ≡ None = f in cc)

  -- the first component is written
  left_found : written a ≡ Some name → (found : Option (List ℕ)) → found ≡ name_by b name → OneFound found
  left_found is found e = one_found (λ other s. sym (written_alone a name other true is (shares_facts a b other s).2)) found (e ∙ ap (λ (t : Bool). if t then Some name else None) (sym same))
    where
      same : shares a b name ≡ (is_name name && not (is_staging name) && component_matches b name)
      same = ap (λ (t : Bool). is_name name && not (is_staging name) && t && component_matches b name) (written_matches a name true is)
          ∙ ap (λ (t : Bool). t && component_matches b name) (and-true (is_name name && not (is_staging name)))

  -- the second component is written
  right_found : written b ≡ Some name → (found : Option (List ℕ)) → found ≡ name_by a name → OneFound found
  right_found is found e = one_found (λ other s. sym (written_alone b name other true is (shares_facts a b other s).3)) found (e ∙ ap (λ (t : Bool). if t then Some name else None) (sym same))
    where
      same : shares a b name ≡ (is_name name && not (is_staging name) && component_matches a name)
      same = ap (λ (t : Bool). is_name name && not (is_staging name) && component_matches a name && t) (written_matches b name true is)
          ∙ and-true (is_name name && not (is_staging name) && component_matches a name)

  abbrev NoneShared : Option (List ℕ) → Type 0
  NoneShared found = IsNone found → (other : List ℕ) → shares a b other ≡ false

  abbrev FirstShared : Option (List ℕ) → Type 0
  FirstShared found = IfSome found (IsFirst word_cmp (shares a b))

  -- the same of what the calls have answered
  module _ {E : Type 0} (o : Option (List ℕ)) (is : o ≡ Some name) (r : Result (Option (List ℕ)) E) where
    pub left_none : o ≡ written a → IfOk r (λ found. found ≡ name_by b name) → IfOk r NoneShared
    left_none e = if_ok (λ found. found ≡ name_by b name) NoneShared r (λ found f. (left_found (sym e ∙ is) found f).0)

    pub left_first : o ≡ written a → IfOk r (λ found. found ≡ name_by b name) → IfOk r FirstShared
    left_first e = if_ok (λ found. found ≡ name_by b name) FirstShared r (λ found f. (left_found (sym e ∙ is) found f).1)

    pub right_none : o ≡ written b → IfOk r (λ found. found ≡ name_by a name) → IfOk r NoneShared
    right_none e = if_ok (λ found. found ≡ name_by a name) NoneShared r (λ found f. (right_found (sym e ∙ is) found f).0)

    pub right_first : o ≡ written b → IfOk r (λ found. found ≡ name_by a name) → IfOk r FirstShared
    right_first e = if_ok (λ found. found ≡ name_by a name) FirstShared r (λ found f. (right_found (sym e ∙ is) found f).1)
