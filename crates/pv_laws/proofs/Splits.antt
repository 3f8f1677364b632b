-- The lines before and after one that copies, if no line has a hazard and no two make one object.
use Rattle.std.specs.Prelude.{◌≡◌, ◌≢◌, ◌⊎◌, ◌+◌, Bool, true, false, List, [], ◌∷◌, ◌++◌, map, filter, fold, slice_get}
use Rattle.std.proofs.Common.{refl, sym, ap, subst, ◌∙◌, arith, inl, inr}
use Rattle.std.proofs.lemmas.Bool.{false_from_ne_true}
use Rattle.std.specs.List.{enumerate_from, AllByRecursion}
use Rattle.std.proofs.lemmas.List.{map-append}
use Rattle.pv_path.specs.Paths.{Path, is_prefix}
use Rattle.pv_path.proofs.PathLaws.{is_prefix-refl}
use Rattle.pv_lines.specs.declared.line.Line.{Line}
use Rattle.pv_lines.specs.declared.line.LinePath.{LinePath}
use Rattle.pv_lines.specs.Lines.{IsLine}
use Rattle.pv_table.specs.declared.action.Copying.{Copying}
use Rattle.pv_table.specs.declared.action.Action.TheVariants.{Copy}
use Rattle.pv_table.specs.declared.reason.Reason.TheVariants as reason
use Rattle.pv_table.specs.Active.{are_distinct, Listed, placed, is_adjusting_line, ordered, in_create_order}
use Rattle.pv_table.specs.ActionTable.{action_of}
use Rattle.pv_table.specs.Reaching.{path_in, is_creating}
use Rattle.pv_table.specs.Repeatable.{IsAt, IsRepeatable, below}
use Rattle.pv_table.specs.Turns.{copied}
use Rattle.pv_laws.proofs.Later.{IsAfter, adjusts, beside}
use Rattle.pv_laws.proofs.Lines.{copy_literal}
use Rattle.pv_table.proofs.ListedLaws.{all_append, all_listed, all_ordered, all_at, all_tests, makers_create}
use Rattle.pv_laws.proofs.Orders.{Pairwise}
use Rattle.pv_laws.proofs.Regions.{IsBeside, Before}
use Rattle.pv_laws.proofs.Repeated.{copy_adjusts_not}
use Rattle.pv_laws.proofs.Sets.{impossible}
use Rattle.pv_laws.proofs.Stops.{GoesBefore, before_one, all_in_place}
use Rattle.pv_path.proofs.Tests.{true_not_false}
pub use Rattle.pv_walk.proofs.OrderLaws.{all_before, all_behind}

-- ---- lists

-- an element that passes a test, with what stands before it and after it; or none does
pub record IsSplit (test : Listed → Bool) (xs : List Listed) : Type 0 where
  pub before : List Listed
  pub one : Listed
  pub after : List Listed
  pub whole : xs ≡ before ++ one ∷ after
  pub passes : test one ≡ true

pub split : (test : Listed → Bool) (xs : List Listed) → IsSplit test xs ⊎ AllByRecursion (λ x. test x ≡ false) xs
split test [] = inr tt
split test (x ∷ xs) = by (test x) refl (split test xs)
  where
    by : (b : Bool) → test x ≡ b → IsSplit test xs ⊎ AllByRecursion (λ y. test y ≡ false) xs → IsSplit test (x ∷ xs) ⊎ AllByRecursion (λ y. test y ≡ false) (x ∷ xs)
    by true e rest = inl (record { before = []; one = x; after = xs; whole = refl; passes = e })
    by false e (inl found) = inl (record { before = x ∷ found.before; one = found.one; after = found.after; whole = ap (λ ys. x ∷ ys) found.whole; passes = found.passes })
    by false e (inr none) = inr (e, none)

module _ {A : Type 0} (R : A → A → Type 0) where
  pub front_pairs : (xs ys : List A) → Pairwise R (xs ++ ys) → Pairwise R xs
  front_pairs [] ys h = tt
  front_pairs (x ∷ xs) ys h = (all_before (R x) xs ys h.0, front_pairs xs ys h.1)

  pub after_one : (xs : List A) (x : A) (ys : List A) → Pairwise R (xs ++ x ∷ ys) → AllByRecursion (R x) ys
  after_one [] x ys h = h.0
  after_one (y ∷ xs) x ys h = after_one xs x ys h.1

module _ {A : Type 0} (P Q R : A → Type 0) (f : (x : A) → P x → Q x → R x) where
  pub all_both : (xs : List A) → AllByRecursion P xs → AllByRecursion Q xs → AllByRecursion R xs
  all_both [] h g = tt
  all_both (x ∷ xs) h g = (f x h.0 g.0, all_both xs h.1 g.1)

-- lines in their order beside a path come one before the other
pub turns_before : (p : Path) (xs : List Line) → AllByRecursion (IsBeside p) xs → Pairwise GoesBefore xs → Pairwise Before xs
turns_before p [] h g = tt
turns_before p (x ∷ xs) h g = (all_both (IsBeside p) (GoesBefore x) (Before x) (λ y beside goes. (goes beside.makes).1) xs h.1 g.0, turns_before p xs h.1 g.1)

-- the line of a listed one
abbrev pub line_of : Listed → Line
line_of l = l.1

pub all_lines : (P : Line → Type 0) (xs : List Listed) → AllByRecursion (λ (l : Listed). P l.1) xs → AllByRecursion P (map line_of xs)
all_lines P [] h = tt
all_lines P (x ∷ xs) h = (h.0, all_lines P xs h.1)

all_unlist : (P : Line → Type 0) (xs : List Listed) → AllByRecursion P (map line_of xs) → AllByRecursion (λ (l : Listed). P l.1) xs
all_unlist P [] h = tt
all_unlist P (x ∷ xs) h = (h.0, all_unlist P xs h.1)

-- ---- a line that copies, and the others

module _ (lines : List Line) (are : AllByRecursion IsLine lines) (distinct : are_distinct lines ≡ true) (repeatable : IsRepeatable lines) where
  -- a line of these that makes something or adjusts
  pub record IsKnown (l : Listed) : Type 0 where
    pub at : IsAt lines l.0 l.1
    pub is : IsLine l.1
    pub does : (is_creating l.1 ≡ true) ⊎ (is_adjusting_line l.1 ≡ true)

  abbrev all : List Listed
  all = enumerate_from 0 lines

  pub all_known : AllByRecursion IsKnown (ordered all)
  all_known =
      all_both (λ (l : Listed). IsAt lines l.0 l.1 × IsLine l.1) (λ (l : Listed). (is_creating l.1 ≡ true) ⊎ (is_adjusting_line l.1 ≡ true)) IsKnown (λ l h g. record { at = h.0; is = h.1; does = g }) (ordered all)
      (all_ordered (λ (l : Listed). IsAt lines l.0 l.1 × IsLine l.1) all (
      all_both (λ (l : Listed). IsAt lines l.0 l.1) (λ (l : Listed). IsLine l.1) (λ (l : Listed). IsAt lines l.0 l.1 × IsLine l.1) (λ l h g. (h, g)) all
      (all_at lines lines 0 (λ i. (let same : 0 + i ≡ i = omega arith in ap (slice_get lines) same))) (all_listed IsLine 0 lines are)))
      (all_append (λ (l : Listed). (is_creating l.1 ≡ true) ⊎ (is_adjusting_line l.1 ≡ true)) (fold placed [] (filter (λ (l : Listed). is_creating l.1) all)) (filter (λ (l : Listed). is_adjusting_line l.1) all)
      (makes (fold placed [] (filter (λ (l : Listed). is_creating l.1) all)) (makers_create all)) (adjust_at (filter (λ (l : Listed). is_adjusting_line l.1) all) (all_tests (λ (l : Listed). is_adjusting_line l.1) all)))
    where
      makes : (xs : List Listed) → AllByRecursion (λ (l : Listed). is_creating l.1 ≡ true) xs → AllByRecursion (λ (l : Listed). (is_creating l.1 ≡ true) ⊎ (is_adjusting_line l.1 ≡ true)) xs
      makes [] h = tt
      makes (x ∷ xs) h = (inl h.0, makes xs h.1)

      adjust_at : (xs : List Listed) → AllByRecursion (λ (l : Listed). is_adjusting_line l.1 ≡ true) xs → AllByRecursion (λ (l : Listed). (is_creating l.1 ≡ true) ⊎ (is_adjusting_line l.1 ≡ true)) xs
      adjust_at [] h = tt
      adjust_at (x ∷ xs) h = (inr h.0, adjust_at xs h.1)

  module _ (before after : List Listed) (copier : Listed) (whole : ordered all ≡ before ++ copier ∷ after) (copying : Copying) (e : action_of copier.1 ≡ Copy copying) where
    abbrev p : Path
    p = path_in copier.1.path

    parts_known : AllByRecursion IsKnown (before ++ copier ∷ after)
    parts_known = subst (AllByRecursion IsKnown) whole all_known

    pub known_before : AllByRecursion IsKnown before
    known_before = all_before IsKnown before (copier ∷ after) parts_known

    pub known_one : IsKnown copier
    known_one = (all_behind IsKnown before (copier ∷ after) parts_known).0

    pub known_after : AllByRecursion IsKnown after
    known_after = (all_behind IsKnown before (copier ∷ after) parts_known).1

    adjusts_not : is_adjusting_line copier.1 ≡ false
    adjusts_not = copy_adjusts_not [] copier.1 copying e

    copier_creates : is_creating copier.1 ≡ true
    copier_creates = ap (λ (path : LinePath). is_creating (record copier.1 { path = path })) (copy_literal copier.1 known_one.is copying e)

    -- the lines in their order
    pub lines_whole : in_create_order lines ≡ map line_of before ++ copier.1 ∷ map line_of after
    lines_whole = ap (map line_of) whole ∙ map-append line_of before (copier ∷ after)

    in_place : Pairwise GoesBefore (map line_of before ++ copier.1 ∷ map line_of after)
    in_place = subst (Pairwise GoesBefore) lines_whole (all_in_place lines are distinct repeatable p)

    -- no line makes an object below what is copied to, nor copies to what lies above it
    none_below : (l : Listed) → IsKnown l → is_creating l.1 ≡ true → p ≢ path_in l.1.path → is_prefix p (path_in l.1.path) ≡ false
    none_below l known creates differ = false_from_ne_true _ (λ f. repeatable l.0 reason.Below (below l.1 copier.1 copier.0 copying.source known.at known_one.at creates (ap copied e) f differ))

    none_above : (l : Listed) → IsKnown l → (other : Copying) → action_of l.1 ≡ Copy other → path_in l.1.path ≢ p → is_prefix (path_in l.1.path) p ≡ false
    none_above l known other f differ = false_from_ne_true _ (λ g. repeatable copier.0 reason.Below (below copier.1 l.1 l.0 other.source known_one.at known.at copier_creates (ap copied f) g differ))

    pub all_beside : AllByRecursion (IsBeside p) (map line_of before)
    all_beside = all_lines (IsBeside p) before (
        all_both IsKnown (λ (l : Listed). GoesBefore l.1 copier.1) (λ (l : Listed). IsBeside p l.1) (λ l known goes. (
        let two = goes adjusts_not in
        record {
          low = two.1;
          makes = two.0;
          copies = λ other f. none_above l known other f (λ same. true_not_false (is_prefix p (path_in l.1.path)) (ap (is_prefix p) same ∙ is_prefix-refl p) two.1);
        })) before known_before (all_unlist (λ line. GoesBefore line copier.1) before (before_one GoesBefore (map line_of before) (map line_of after) copier.1 in_place)))

    pub all_in_turn : Pairwise Before (map line_of before)
    all_in_turn = turns_before p (map line_of before) all_beside (front_pairs GoesBefore (map line_of before) (copier.1 ∷ map line_of after) in_place)

    pub later_listed : AllByRecursion (λ (l : Listed). IsAfter p l.1) after
    later_listed =
        all_both IsKnown (λ (l : Listed). GoesBefore copier.1 l.1) (λ (l : Listed). IsAfter p l.1) (λ l known goes. one l known goes (is_adjusting_line l.1) refl) after known_after
        (all_unlist (GoesBefore copier.1) after (after_one GoesBefore (map line_of before) copier.1 (map line_of after) in_place))
      where
        creates : (l : Listed) → IsKnown l → is_adjusting_line l.1 ≡ false → is_creating l.1 ≡ true
        creates l known none = by known.does
          where
            by : (is_creating l.1 ≡ true) ⊎ (is_adjusting_line l.1 ≡ true) → is_creating l.1 ≡ true
            by (inl h) = h
            by (inr h) = impossible (sym none ∙ h)

        one : (l : Listed) → IsKnown l → GoesBefore copier.1 l.1 → (adjusts_path : Bool) → is_adjusting_line l.1 ≡ adjusts_path → IsAfter p l.1
        one l known goes true f = adjusts f
        one l known goes false f =
            let above : is_prefix (path_in l.1.path) p ≡ false = (goes f).1 in
            beside (record {
              low = none_below l known (creates l known f) (λ same. true_not_false (is_prefix (path_in l.1.path) p) (ap (λ (r : Path). is_prefix r p) (sym same) ∙ is_prefix-refl p) above);
              copies = λ other g. above;
              makes = f;
            }) above

    pub all_later : AllByRecursion (IsAfter p) (map line_of after)
    all_later = all_lines (IsAfter p) after later_listed
