-- What a type is that is read with its modifiers.
use Rattle.std.specs.Prelude.{◌≡◌, ℕ, Bool, true, false, ◌&&◌, ◌||◌, ◌==◌, List, [], ◌∷◌, find, Option, Some, None, option_map, IfSome, IsSomeAnd, Ok, Err, if◌then◌else◌, refl}
use Rattle.std.specs.List.{list_all, AllByRecursion}
use Rattle.std.proofs.Common.{arith, subst, ◌∙◌}
use Rattle.std.proofs.lemmas.Bool.Decides.{nat_tests}
use Rattle.std.proofs.lemmas.Bool.{and_parts}
use Rattle.pv_path.specs.Results.{◌>>=◌, or_fault}
use Rattle.pv_lines.specs.declared.line_fault.LineFault.TheVariants.{UnknownType, BadModifier}
use Rattle.pv_lines.specs.declared.type_field.Typed.{Typed}
use Rattle.pv_lines.specs.declared.types.Row.{Row}
use Rattle.pv_lines.specs.TypeField.{has_mark, plus, replace, encoded, purge, stand_once, takes, typed_of, with_marks}
use Rattle.pv_lines.specs.Types.{type_of, types}
use Rattle.pv_lines.specs.Lines.{Takes}

-- a row is kept as another: what it takes is the same, and `+` where it is kept with it
record IsKeptAs (row kept : Row) : Type 0 where
  letter : kept.letter ≡ row.letter
  plus : kept.plus ≡ (row.plus || row.always_plus)
  replace : kept.replace ≡ row.replace
  encoded : kept.encoded ≡ row.encoded
  creates : kept.creates ≡ row.creates
  root : kept.root ≡ row.root
  ages : kept.ages ≡ row.ages
  wanted : kept.wanted ≡ row.wanted

abbrev HasKept : ℕ × Row → Type 0
HasKept entry = IsSomeAnd (type_of entry.1.letter) (IsKeptAs entry.1)

-- each type of the table is kept as one of the table
all_kept : AllByRecursion HasKept types
all_kept = (
  record { letter = refl; plus = refl; replace = refl; encoded = refl; creates = refl; root = refl; ages = refl; wanted = refl },
  (
    record { letter = refl; plus = refl; replace = refl; encoded = refl; creates = refl; root = refl; ages = refl; wanted = refl },
    (
      record { letter = refl; plus = refl; replace = refl; encoded = refl; creates = refl; root = refl; ages = refl; wanted = refl },
      (
        record { letter = refl; plus = refl; replace = refl; encoded = refl; creates = refl; root = refl; ages = refl; wanted = refl },
        (
          record { letter = refl; plus = refl; replace = refl; encoded = refl; creates = refl; root = refl; ages = refl; wanted = refl },
          (
            record { letter = refl; plus = refl; replace = refl; encoded = refl; creates = refl; root = refl; ages = refl; wanted = refl },
            (
              record { letter = refl; plus = refl; replace = refl; encoded = refl; creates = refl; root = refl; ages = refl; wanted = refl },
              (
                record { letter = refl; plus = refl; replace = refl; encoded = refl; creates = refl; root = refl; ages = refl; wanted = refl },
                (
                  record { letter = refl; plus = refl; replace = refl; encoded = refl; creates = refl; root = refl; ages = refl; wanted = refl },
                  (
                    record { letter = refl; plus = refl; replace = refl; encoded = refl; creates = refl; root = refl; ages = refl; wanted = refl },
                    (
                      record { letter = refl; plus = refl; replace = refl; encoded = refl; creates = refl; root = refl; ages = refl; wanted = refl },
                      (
                        record { letter = refl; plus = refl; replace = refl; encoded = refl; creates = refl; root = refl; ages = refl; wanted = refl },
                        (
                          record { letter = refl; plus = refl; replace = refl; encoded = refl; creates = refl; root = refl; ages = refl; wanted = refl },
                          (
                            record { letter = refl; plus = refl; replace = refl; encoded = refl; creates = refl; root = refl; ages = refl; wanted = refl },
                            (
                              record { letter = refl; plus = refl; replace = refl; encoded = refl; creates = refl; root = refl; ages = refl; wanted = refl },
                              (
                                record { letter = refl; plus = refl; replace = refl; encoded = refl; creates = refl; root = refl; ages = refl; wanted = refl },
                                (
                                  record { letter = refl; plus = refl; replace = refl; encoded = refl; creates = refl; root = refl; ages = refl; wanted = refl },
                                  (
                                    record { letter = refl; plus = refl; replace = refl; encoded = refl; creates = refl; root = refl; ages = refl; wanted = refl },
                                    (
                                      record { letter = refl; plus = refl; replace = refl; encoded = refl; creates = refl; root = refl; ages = refl; wanted = refl },
                                      (
                                        record { letter = refl; plus = refl; replace = refl; encoded = refl; creates = refl; root = refl; ages = refl; wanted = refl },
                                        (
                                          record { letter = refl; plus = refl; replace = refl; encoded = refl; creates = refl; root = refl; ages = refl; wanted = refl },
                                          (
                                            record { letter = refl; plus = refl; replace = refl; encoded = refl; creates = refl; root = refl; ages = refl; wanted = refl },
                                            (
                                              record { letter = refl; plus = refl; replace = refl; encoded = refl; creates = refl; root = refl; ages = refl; wanted = refl },
                                              (
                                                record { letter = refl; plus = refl; replace = refl; encoded = refl; creates = refl; root = refl; ages = refl; wanted = refl },
                                                (
                                                  record { letter = refl; plus = refl; replace = refl; encoded = refl; creates = refl; root = refl; ages = refl; wanted = refl },
                                                  (
                                                    record { letter = refl; plus = refl; replace = refl; encoded = refl; creates = refl; root = refl; ages = refl; wanted = refl },
                                                    tt,
                                                  ),
                                                ),
                                              ),
                                            ),
                                          ),
                                        ),
                                      ),
                                    ),
                                  ),
                                ),
                              ),
                            ),
                          ),
                        ),
                      ),
                    ),
                  ),
                ),
              ),
            ),
          ),
        ),
      ),
    ),
  ),
)

found : (p : ℕ × Row → Bool) (entries : List (ℕ × Row)) → AllByRecursion HasKept entries → IfSome (find p entries) HasKept
found p [] all = tt
found p (entry ∷ entries) all = by_test (p entry) (found p entries all.1)
  where
    by_test : (is : Bool) → IfSome (find p entries) HasKept → IfSome (if is then Some entry else find p entries) HasKept
    by_test true below = all.0
    by_test false below = below

-- the row of a letter is kept as one of the table
kept_as : (letter : ℕ) (row : Row) → type_of letter ≡ Some row → IsSomeAnd (type_of row.letter) (IsKeptAs row)
kept_as letter row e = by_entry (find (λ entry. entry.0 == letter) types) e (found (λ entry. entry.0 == letter) types all_kept)
  where
    by_entry : (entry : Option (ℕ × Row)) → option_map (λ entry. entry.1) entry ≡ Some row → IfSome entry HasKept → IsSomeAnd (type_of row.letter) (IsKeptAs row)
    by_entry None is has = absurd (let no : None ≡ Some row = is in cc)
    by_entry (Some entry) is has =
        let same : entry.1 ≡ row = cc in
        subst (λ (r : Row). IsSomeAnd (type_of r.letter) (IsKeptAs r)) same has

-- a modifier that stands is one that the type takes
takes-has_mark : (row : Row) (mark : ℕ) (marks : List ℕ) → list_all (takes row) marks ≡ true → has_mark marks mark ≡ true → takes row mark ≡ true
takes-has_mark row mark [] all has = absurd (let no : false ≡ true = has in cc)
takes-has_mark row mark (other ∷ marks) all has = by_first (other == mark) refl has (takes-has_mark row mark marks both.1)
  where
    both : (takes row other ≡ true) × (list_all (takes row) marks ≡ true)
    both = and_parts (takes row other) (list_all (takes row) marks) all

    by_first : (is : Bool) → (other == mark) ≡ is → (is || has_mark marks mark) ≡ true → (has_mark marks mark ≡ true → takes row mark ≡ true) → takes row mark ≡ true
    by_first true is stands below = let same : other ≡ mark = grind (arith, nat_tests, is) in subst (λ m. takes row m ≡ true) same both.0
    by_first false is stands below = below stands

last_of : (a : Bool) → (a || false) ≡ true → a ≡ true
last_of true e = refl
last_of false e = absurd (let no : false ≡ true = e in cc)

-- ---- the type of a line

-- a type with its modifiers, as it is kept
pub record IsTyped (typed : Typed) : Type 0 where
  pub kept : Row
  pub is_type : type_of typed.row.letter ≡ Some kept
  pub letter : kept.letter ≡ typed.row.letter
  pub plus : Takes kept.plus typed.plus
  pub replace : Takes kept.replace typed.replace
  pub encoded : Takes kept.encoded typed.encoded
  pub purge : Takes kept.creates typed.purge
  pub creates : kept.creates ≡ typed.row.creates
  pub root : kept.root ≡ typed.row.root
  pub ages : kept.ages ≡ typed.row.ages
  pub wanted : kept.wanted ≡ typed.row.wanted

plus_from : (row : Row) (marks : List ℕ) → list_all (takes row) marks ≡ true → (row.always_plus || has_mark marks plus) ≡ true → (row.plus || row.always_plus) ≡ true
plus_from row marks all stands = by_always row.always_plus refl stands
  where
    by_always : (always : Bool) → row.always_plus ≡ always → (always || has_mark marks plus) ≡ true → (row.plus || always) ≡ true
    by_always true a e = grind (arith, nat_tests)
    by_always false a e =
        let taken : row.plus ≡ true = last_of row.plus (last_of (row.plus || false) (last_of (row.plus || false || false) (takes-has_mark row plus marks all e))) in
        rw taken refl

with_marks-typed : (row kept : Row) (marks : List ℕ) → type_of row.letter ≡ Some kept → IsKeptAs row kept → list_all (takes row) marks ≡ true → IsTyped (with_marks row marks)
with_marks-typed row kept marks is kin all = record {
  kept = kept;
  is_type = is;
  letter = kin.letter;
  plus = λ stands. kin.plus ∙ plus_from row marks all stands;
  replace = λ stands. kin.replace ∙ last_of row.replace (last_of (row.replace || false) (takes-has_mark row replace marks all stands));
  encoded = λ stands. kin.encoded ∙ last_of row.encoded (takes-has_mark row encoded marks all stands);
  purge = λ stands. kin.creates ∙ takes-has_mark row purge marks all stands;
  creates = kin.creates;
  root = kin.root;
  ages = kin.ages;
  wanted = kin.wanted;
}

pub typed_of-typed : (text : List ℕ) (typed : Typed) → typed_of text ≡ Ok typed → IsTyped typed
typed_of-typed [] typed e = absurd (let no : Err UnknownType ≡ Ok typed = e in cc)
typed_of-typed (letter ∷ marks) typed e = by_row (type_of letter) refl e
  where
    by_kept : (row : Row) (kept : Option Row) → type_of row.letter ≡ kept → IsSomeAnd kept (IsKeptAs row) → list_all (takes row) marks ≡ true → IsTyped (with_marks row marks)
    by_kept row (Some kept) is kin all = with_marks-typed row kept marks is kin all
    by_kept row None is kin all = absurd kin

    by_marks : (row : Row) → type_of letter ≡ Some row → (all once : Bool) → list_all (takes row) marks ≡ all → (if all && once then Ok (with_marks row marks) else Err BadModifier) ≡ Ok typed → IsTyped typed
    by_marks row is true true a made =
        let same : with_marks row marks ≡ typed = cc in
        subst IsTyped same (by_kept row (type_of row.letter) refl (kept_as letter row is) a)
    by_marks row is false once a made = absurd (let no : Err BadModifier ≡ Ok typed = made in cc)
    by_marks row is true false a made = absurd (let no : Err BadModifier ≡ Ok typed = made in cc)

    by_row : (row : Option Row) → type_of letter ≡ row
        → (or_fault UnknownType row >>= (λ row. if list_all (takes row) marks && stand_once marks then Ok (with_marks row marks) else Err BadModifier)) ≡ Ok typed → IsTyped typed
    by_row None is made = absurd (let no : Err UnknownType ≡ Ok typed = made in cc)
    by_row (Some row) is made = by_marks row is (list_all (takes row) marks) (stand_once marks) refl made
