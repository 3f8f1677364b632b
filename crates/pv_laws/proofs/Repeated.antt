-- Where no line has a hazard, nothing is said against the operations that lines ask for at one path.
use Rattle.std.specs.Prelude.{◌≡◌, ◌≢◌, ◌⊎◌, ℕ, ◌+◌, ◌-◌, ◌≤◌, Bool, true, false, not, cond, ◌&&◌, ◌||◌, List, [], ◌∷◌, ◌++◌, map, filter, fold, Option, Some, None, slice_get}
use Rattle.std.proofs.Common.{refl, sym, ap, subst, ◌∙◌, arith, inl, inr}
use Rattle.std.specs.List.{list_any, list_all, flat_map, enumerate_from, AllByRecursion}
use Rattle.std.proofs.lemmas.Grind.{flat_map-append}
use Rattle.std.proofs.lemmas.List.Folds.{list_any-append, list_all-append}
use Rattle.std.proofs.lemmas.Bool.{or_parts, or_left, false_from_ne_true, and_parts}
use Rattle.pv_path.specs.Paths.{has_names, Path, same_path, is_prefix, has_staging, same_path-decides}
use Rattle.pv_path.proofs.PathLaws.{is_prefix-refl}
use Rattle.pv_walk.specs.declared.operation.Change.{Change}
use Rattle.pv_walk.specs.declared.operation.Operation.{Operation}
use Rattle.pv_walk.specs.declared.operation.Operation.TheVariants.{Make, Erase}
use Rattle.pv_walk.specs.declared.operation.Test.{Test}
use Rattle.pv_walk.specs.Dividing.{parts_of, parts}
use Rattle.pv_walk.specs.Reasons as reasons
use Rattle.pv_walk.specs.Reasons.{is_adjusting, is_append, is_masked, gives_base, is_make, is_renewal, is_erasure, sets_nothing, has_append, has_mixed_mask, makes_late, has_late_make}
use Rattle.pv_walk.proofs.Dividing.{repeatable-parts}
use Rattle.pv_walk.proofs.EditLaws.{path_cases}
use Rattle.pv_lines.specs.declared.line.Line.{Line}
use Rattle.pv_lines.specs.declared.line.LinePath.{LinePath}
use Rattle.pv_lines.specs.declared.line.LinePath.TheVariants.{Literal, Glob}
use Rattle.pv_lines.specs.Lines.{IsLine, IsLinePath}
use Rattle.pv_walk.proofs.RemovalLaws.{zero_or_more}
use Rattle.pv_table.specs.declared.action.Copying.{Copying}
use Rattle.pv_table.specs.declared.action.Action.{Action}
use Rattle.pv_table.specs.declared.action.Action.TheVariants.{Create, Copy, Adjust, Idle}
use Rattle.pv_table.specs.declared.action.Making.{Making}
use Rattle.pv_table.specs.declared.action.Adjustment.{Adjustment}
use Rattle.pv_table.specs.declared.reason.Reason.TheVariants as reason
use Rattle.pv_table.specs.Active.{are_distinct, Listed, placed, is_adjusting_line, ordered, in_create_order}
use Rattle.pv_table.specs.Asked.{first_of, clears_below, operations, operations_of}
use Rattle.pv_table.specs.ActionTable.{action_of}
use Rattle.pv_table.specs.Pointwise.{parent_object_state, adjusts_path}
use Rattle.pv_table.specs.Reaching.{names, names_above, path_in, is_creating, is_deep, reaches_below, reaches}
use Rattle.pv_table.specs.Repeatable.{IsAt, sets_of, sets_base, has_masked_mode, HasReason, IsRepeatable}
use Rattle.pv_laws.proofs.Lines.{made_creates, creating_adjusts_none, creating_row, asked_made, asked_adjustment, asked_idle}
use Rattle.pv_laws.proofs.Making.{first_make, first_renew, asked_here, asked_above, asked_else}
use Rattle.pv_laws.proofs.Orders.{Pairwise, path_of, ComesAfter, makers_ordered}
use Rattle.pv_table.proofs.ListedLaws.{all_tests, all_map, all_makers, all_ordered, makers_create, all_listed, all_at}
use Rattle.pv_laws.proofs.Sets.{impossible, is_adjustment, IsMaking, line_is_making, only_adjusts, asked, sets_adjust, sets_unmixed, sets_masked, adjustments_renew_none, adjustments_timely}
use Rattle.pv_path.proofs.Tests.{true_not_false}

-- ---- the operations of one line

pub asked_copy : (line : Line) (copying : Copying) (q : Path) → action_of line ≡ Copy copying → operations line q ≡ []
asked_copy line copying q e = rw e

-- what a line asks for at a path: what it makes there, or what it sets, or nothing
pub data IsAskedAt (line : Line) (q : Path) : Type 0 where
  object : (making : Making) → action_of line ≡ Create making → path_in line.path ≡ q → operations line q ≡ first_of making ∷ making.sets → IsAskedAt line q
  parent : (making : Making) → action_of line ≡ Create making → is_prefix q (path_in line.path) ≡ true → operations line q ≡ Make parent_object_state ∷ [] → IsAskedAt line q
  below : (making : Making) → action_of line ≡ Create making → (is_prefix (path_in line.path) q && clears_below making) ≡ true → same_path (path_in line.path) q ≡ false → operations line q ≡ Erase ∷ [] → IsAskedAt line q
  set : (adjustment : Adjustment) → action_of line ≡ Adjust adjustment → adjusts_path line adjustment q ≡ true → operations line q ≡ adjustment.sets → IsAskedAt line q
  nothing : operations line q ≡ [] → IsAskedAt line q

pub asked_at : (line : Line) (q : Path) → IsAskedAt line q
asked_at line q = by (action_of line) refl
  where
    made : (making : Making) → action_of line ≡ Create making → IsAskedAt line q
    made making e = elim (path_cases (path_in line.path) q) [
      | inl s ↦ object making e s (asked_made line making q e ∙ asked_here making (path_in line.path) q ((same_path-decides (path_in line.path) q).1 s))
      | inr d ↦ at d (is_prefix q (path_in line.path)) refl
    ]
      where
        cleared : (b : Bool) → (is_prefix (path_in line.path) q && clears_below making) ≡ b → same_path (path_in line.path) q ≡ false → operations line q ≡ cond b (Erase ∷ []) [] → IsAskedAt line q
        cleared true g d f = below making e g d f
        cleared false g d f = nothing f

        at : same_path (path_in line.path) q ≡ false → (b : Bool) → is_prefix q (path_in line.path) ≡ b → IsAskedAt line q
        at d true f = parent making e f (asked_made line making q e ∙ asked_above making (path_in line.path) q d f)
        at d false f = cleared (is_prefix (path_in line.path) q && clears_below making) refl d (asked_made line making q e ∙ asked_else making (path_in line.path) q d f)

    touched : (adjustment : Adjustment) → action_of line ≡ Adjust adjustment → (b : Bool) → adjusts_path line adjustment q ≡ b → IsAskedAt line q
    touched adjustment e true t = set adjustment e t (asked_adjustment line adjustment q e ∙ ap (λ b. cond b adjustment.sets []) t)
    touched adjustment e false t = nothing (asked_adjustment line adjustment q e ∙ ap (λ b. cond b adjustment.sets []) t)

    by : (d : Action) → action_of line ≡ d → IsAskedAt line q
    by (Create making) e = made making e
    by (Copy copying) e = nothing (asked_copy line copying q e)
    by (Adjust adjustment) e = touched adjustment e (adjusts_path line adjustment q) refl
    by Idle e = nothing (asked_idle line q e)

-- the first operation at the path of a line makes
pub first_makes : (making : Making) → IsMaking making → (is_make (first_of making) ≡ true) × ((test : Change → Bool) → is_adjusting test (first_of making) ≡ false)
first_makes making is = by making.renew refl
  where
    by : (r : Option Test) → making.renew ≡ r → (is_make (first_of making) ≡ true) × ((test : Change → Bool) → is_adjusting test (first_of making) ≡ false)
    by None e = (ap is_make (first_make making is e), λ test. ap (is_adjusting test) (first_make making is e))
    by (Some t) e = (ap is_make (first_renew making is t e), λ test. ap (is_adjusting test) (first_renew making is t e))

-- whether a line reaches below what it names, by what it asks for
pub deep_reaches : (line : Line) (d : Action) → action_of line ≡ d → is_deep d ≡ true → reaches_below line ≡ true
deep_reaches line d e h = grind arith

-- what a line changes somewhere, it sets
pub asked_sets : (test : Change → Bool) (line : Line) (q : Path) → list_any (is_adjusting test) (operations line q) ≡ true → list_any (is_adjusting test) (sets_of (action_of line)) ≡ true
asked_sets test line q h = by (asked_at line q)
  where
    by : IsAskedAt line q → list_any (is_adjusting test) (sets_of (action_of line)) ≡ true
    by (object making e s f) =
        ap (λ (d : Action). list_any (is_adjusting test) (sets_of d)) e
        ∙ sym (ap (λ b. b || list_any (is_adjusting test) making.sets) ((first_makes making (line_is_making line making e)).1 test))
        ∙ sym (ap (list_any (is_adjusting test)) f) ∙ h
    by (parent making e s f) = impossible (sym (ap (list_any (is_adjusting test)) f) ∙ h)
    by (below making e g d f) = impossible (sym (ap (list_any (is_adjusting test)) f) ∙ h)
    by (set adjustment e t f) = ap (λ (d : Action). list_any (is_adjusting test) (sets_of d)) e ∙ sym (ap (list_any (is_adjusting test)) f) ∙ h
    by (nothing f) = impossible (sym (ap (list_any (is_adjusting test)) f) ∙ h)

-- and it reaches it
pub asked_reaches : (test : Change → Bool) (line : Line) → IsLine line → (q : Path) → list_any (is_adjusting test) (operations line q) ≡ true → reaches line q ≡ true
asked_reaches test line is q h = by (asked_at line q)
  where
    own : (line_path : LinePath) → IsLinePath is.row line_path → is.row.creates ≡ true → path_in line_path ≡ q → names (record line { path = line_path }) q ≡ true
    own (Literal path) fits c s = (same_path-decides path q).1 s
    own (Glob pattern) fits c s = impossible (sym fits.0 ∙ c)

    named : names line q ≡ true → reaches line q ≡ true
    named e = or_left (names line q) (reaches_below line && names_above line q) e

    touched : (adjustment : Adjustment) → action_of line ≡ Adjust adjustment → (a d n s : Bool) → names line q ≡ a → adjustment.deep ≡ d → names_above line q ≡ n → (a || (d && n && s)) ≡ true → reaches line q ≡ true
    touched adjustment e true d n s f g k t = named f
    touched adjustment e false true true s f g k t =
        ap (λ b. names line q || (b && names_above line q)) (deep_reaches line (Adjust adjustment) e g) ∙ ap (λ b. names line q || b) k ∙ elim (names line q) as (λ b. (b || true) ≡ true) [ true ↦ refl | false ↦ refl ]
    touched adjustment e false false n s f g k t = impossible t
    touched adjustment e false true false s f g k t = impossible t

    by : IsAskedAt line q → reaches line q ≡ true
    by (object making e s f) = named (own line.path is.fits.path (made_creates line is making e) s)
    by (parent making e s f) = impossible (sym (ap (list_any (is_adjusting test)) f) ∙ h)
    by (below making e g d f) = impossible (sym (ap (list_any (is_adjusting test)) f) ∙ h)
    by (set adjustment e t f) = touched adjustment e (names line q) adjustment.deep (names_above line q) (not (has_staging q)) refl refl refl t
    by (nothing f) = impossible (sym (ap (list_any (is_adjusting test)) f) ∙ h)

-- ---- the operations of all lines

-- what lines ask of the object at a path, each operation as one
abbrev pub all_asked : List Line → Path → List Operation
all_asked lines q = flat_map (λ line. operations line q) lines

pub asked_parts : (lines : List Line) (q : Path) → operations_of lines q ≡ parts (all_asked lines q)
asked_parts [] q = refl
asked_parts (line ∷ lines) q = ap (λ xs. parts (operations line q) ++ xs) (asked_parts lines q) ∙ sym (flat_map-append parts_of (operations line q) (all_asked lines q))

module _ (q : Path) where
  -- the same of lines with their places
  abbrev pub listed_asked : List Listed → List Operation
  listed_asked lines = flat_map (λ line. operations line.1 q) lines

  pub unlisted : (lines : List Listed) → all_asked (map (λ (line : Listed). line.1) lines) q ≡ listed_asked lines
  unlisted [] = refl
  unlisted (line ∷ lines) = ap (λ xs. operations line.1 q ++ xs) (unlisted lines)

  -- which line an operation comes from
  pub some_line : (P : Listed → Type 0) (test : Operation → Bool) (lines : List Listed) → AllByRecursion P lines → list_any test (listed_asked lines) ≡ true → (line : Listed) × P line × (list_any test (operations line.1 q) ≡ true)
  some_line P test [] all h = impossible h
  some_line P test (line ∷ lines) all h = by (list_any test (operations line.1 q)) refl (some_line P test lines all.1) (sym (list_any-append test (operations line.1 q) (listed_asked lines)) ∙ h)
    where
      by : (b : Bool) → list_any test (operations line.1 q) ≡ b → (list_any test (listed_asked lines) ≡ true → (l : Listed) × P l × (list_any test (operations l.1 q) ≡ true))
          → (b || list_any test (listed_asked lines)) ≡ true → (l : Listed) × P l × (list_any test (operations l.1 q) ≡ true)
      by true e rest g = (line, all.0, e)
      by false e rest g = rest g

  -- ---- makes come first

  pub adjust_adjusts : (line : Line) (adjustment : Adjustment) → action_of line ≡ Adjust adjustment → is_adjusting_line line ≡ true
  adjust_adjusts line adjustment e = rw e

  pub create_adjusts_not : (line : Line) (making : Making) → action_of line ≡ Create making → is_adjusting_line line ≡ false
  create_adjusts_not line making e = rw e

  pub copy_adjusts_not : (line : Line) (copying : Copying) → action_of line ≡ Copy copying → is_adjusting_line line ≡ false
  copy_adjusts_not line copying e = rw e

  idle_adjusts_not : (line : Line) → action_of line ≡ Idle → is_adjusting_line line ≡ false
  idle_adjusts_not line e = rw e

  -- lines that make an object elsewhere renew nothing here
  renews_none : (line : Line) → path_in line.path ≢ q → is_adjusting_line line ≡ false → list_any is_renewal (operations line q) ≡ false
  renews_none line other adjusts = by (asked_at line q)
    where
      by : IsAskedAt line q → list_any is_renewal (operations line q) ≡ false
      by (object making e s f) = absurd (other s)
      by (parent making e s f) = ap (list_any is_renewal) f
      by (below making e g d f) = ap (list_any is_renewal) f
      by (set adjustment e t f) = impossible (sym adjusts ∙ adjust_adjusts line adjustment e)
      by (nothing f) = ap (list_any is_renewal) f

  all_renew_none : (lines : List Listed) → AllByRecursion (λ (line : Listed). path_of line ≢ q) lines → AllByRecursion (λ (line : Listed). is_adjusting_line line.1 ≡ false) lines → list_any is_renewal (listed_asked lines) ≡ false
  all_renew_none [] other adjusts = refl
  all_renew_none (line ∷ lines) other adjusts =
      list_any-append is_renewal (operations line.1 q) (listed_asked lines)
      ∙ ap (λ b. b || list_any is_renewal (listed_asked lines)) (renews_none line.1 other.0 adjusts.0)
      ∙ all_renew_none lines other.1 adjusts.1

  -- a list that begins with a make, behind which nothing is renewed; or an empty one
  pub data BeginsWithMake (xs : List Operation) : Type 0 where
    empty : xs ≡ [] → BeginsWithMake xs
    make : (x : Operation) (rest : List Operation) → xs ≡ x ∷ rest → is_make x ≡ true → list_any is_renewal rest ≡ false → BeginsWithMake xs

  pub makers_begin : (lines : List Listed) → AllByRecursion (λ (line : Listed). is_adjusting_line line.1 ≡ false) lines → Pairwise ComesAfter lines → list_any is_erasure (listed_asked lines) ≡ false → BeginsWithMake (listed_asked lines)
  makers_begin [] adjusts order h = empty refl
  makers_begin (line ∷ lines) adjusts order h = by (asked_at line.1 q) (makers_begin lines adjusts.1 order.1)
    where
      two : (list_any is_erasure (operations line.1 q) ≡ false) × (list_any is_erasure (listed_asked lines) ≡ false)
      two = or_parts (list_any is_erasure (operations line.1 q)) (list_any is_erasure (listed_asked lines)) (sym (list_any-append is_erasure (operations line.1 q) (listed_asked lines)) ∙ h)

      later : is_prefix q (path_of line) ≡ true → list_any is_renewal (listed_asked lines) ≡ false
      later high = all_renew_none lines (all_map (ComesAfter line) (λ l. path_of l ≢ q) (λ l after e. true_not_false (is_prefix (path_of l) (path_of line)) (ap (λ (p : Path). is_prefix p (path_of line)) e ∙ high) after) lines order.0) adjusts.1

      by : IsAskedAt line.1 q → (list_any is_erasure (listed_asked lines) ≡ false → BeginsWithMake (listed_asked lines)) → BeginsWithMake (listed_asked (line ∷ lines))
      by (object making e s f) rest = make (first_of making) (making.sets ++ listed_asked lines) (ap (λ xs. xs ++ listed_asked lines) f) (first_makes making (line_is_making line.1 making e)).0 (
          list_any-append is_renewal making.sets (listed_asked lines)
          ∙ ap (λ b. b || list_any is_renewal (listed_asked lines)) (adjustments_renew_none making.sets (only_adjusts _ making.sets (line_is_making line.1 making e).only))
          ∙ later (ap (is_prefix q) s ∙ is_prefix-refl q))
      by (parent making e s f) rest = make (Make parent_object_state) (listed_asked lines) (ap (λ xs. xs ++ listed_asked lines) f) refl (later s)
      by (below making e g d f) rest = impossible (sym two.0 ∙ ap (list_any is_erasure) f)
      by (set adjustment e t f) rest = impossible (sym adjusts.0 ∙ adjust_adjusts line.1 adjustment e)
      by (nothing f) rest = subst BeginsWithMake (sym (ap (λ xs. xs ++ listed_asked lines) f)) (rest two.1)

  -- lines that adjust ask for adjustments alone
  pub adjuster_adjusts : (line : Line) → is_adjusting_line line ≡ true → list_all is_adjustment (operations line q) ≡ true
  adjuster_adjusts line h = by (action_of line) refl
    where
      at : (adjustment : Adjustment) → action_of line ≡ Adjust adjustment → (b : Bool) → list_all is_adjustment (cond b adjustment.sets []) ≡ true
      at adjustment e true = subst (λ d. list_all is_adjustment (sets_of d) ≡ true) e (sets_adjust line (action_of line) (asked line))
      at adjustment e false = refl

      by : (d : Action) → action_of line ≡ d → list_all is_adjustment (operations line q) ≡ true
      by (Create making) e = impossible (sym (create_adjusts_not line making e) ∙ h)
      by (Copy copying) e = impossible (sym (copy_adjusts_not line copying e) ∙ h)
      by (Adjust adjustment) e = ap (list_all is_adjustment) (asked_adjustment line adjustment q e) ∙ at adjustment e (adjusts_path line adjustment q)
      by Idle e = impossible (sym (idle_adjusts_not line e) ∙ h)

  adjusters_adjust : (lines : List Listed) → AllByRecursion (λ (line : Listed). is_adjusting_line line.1 ≡ true) lines → list_all is_adjustment (listed_asked lines) ≡ true
  adjusters_adjust [] h = refl
  adjusters_adjust (line ∷ lines) h =
      list_all-append is_adjustment (operations line.1 q) (listed_asked lines)
      ∙ ap (λ b. b && list_all is_adjustment (listed_asked lines)) (adjuster_adjusts line.1 h.0)
      ∙ adjusters_adjust lines h.1

  make_not_idle : (x : Operation) → is_make x ≡ true → is_adjusting sets_nothing x ≡ false
  make_not_idle x h = grind arith

  -- no make comes late
  timely : (xs ys : List Operation) → (list_any is_erasure xs ≡ false → BeginsWithMake xs) → list_all is_adjustment ys ≡ true → has_late_make (xs ++ ys) ≡ false
  timely xs ys begins adjust = by (list_any is_erasure (xs ++ ys)) refl
    where
      at : BeginsWithMake xs → makes_late (xs ++ ys) ≡ false
      at (empty e) = ap (λ zs. makes_late (zs ++ ys)) e ∙ adjustments_timely ys adjust
      at (make x rest e m r) =
          ap (λ zs. makes_late (zs ++ ys)) e
          ∙ ap (λ b. cond b (makes_late (rest ++ ys)) (cond (is_make x) (list_any is_renewal (rest ++ ys)) (list_any is_make (rest ++ ys)))) (make_not_idle x m)
          ∙ ap (λ b. cond b (list_any is_renewal (rest ++ ys)) (list_any is_make (rest ++ ys))) m
          ∙ list_any-append is_renewal rest ys
          ∙ ap (λ b. b || list_any is_renewal ys) r
          ∙ adjustments_renew_none ys adjust

      by : (b : Bool) → list_any is_erasure (xs ++ ys) ≡ b → has_late_make (xs ++ ys) ≡ false
      by true e = ap (λ b. not b && makes_late (xs ++ ys)) e
      by false e = ap (λ b. not b && makes_late (xs ++ ys)) e ∙ at (begins (or_parts (list_any is_erasure xs) (list_any is_erasure ys) (sym (list_any-append is_erasure xs ys) ∙ e)).0)

-- ---- if no line has a hazard

-- a line at its place
pub record IsListed (lines : List Line) (line : Listed) : Type 0 where
  pub at : IsAt lines line.0 line.1
  pub is : IsLine line.1

pub all_at_places : (lines : List Line) → AllByRecursion IsLine lines → AllByRecursion (IsListed lines) (enumerate_from 0 lines)
all_at_places lines are = both (enumerate_from 0 lines) (all_at lines lines 0 (λ i. (let same : 0 + i ≡ i = omega arith in ap (slice_get lines) same))) (all_listed IsLine 0 lines are)
  where
    both : (xs : List Listed) → AllByRecursion (λ (line : Listed). IsAt lines line.0 line.1) xs → AllByRecursion (λ (line : Listed). IsLine line.1) xs → AllByRecursion (IsListed lines) xs
    both [] h g = tt
    both (x ∷ xs) h g = (record { at = h.0; is = g.0 }, both xs h.1 g.1)

module _ (lines : List Line) (are : AllByRecursion IsLine lines) (distinct : are_distinct lines ≡ true) (repeatable : IsRepeatable lines) (q : Path) where
  in_order : AllByRecursion (IsListed lines) (ordered (enumerate_from 0 lines))
  in_order = all_ordered (IsListed lines) (enumerate_from 0 lines) (all_at_places lines are)

  -- nothing is appended
  append_none : has_append (flat_map (λ (line : Listed). operations line.1 q) (ordered (enumerate_from 0 lines))) ≡ false
  append_none = false_from_ne_true _ (λ h. (
      let found = some_line q (IsListed lines) (is_adjusting is_append) (ordered (enumerate_from 0 lines)) in_order h in
      repeatable found.0.0 reason.Append (HasReason.append found.0.1 found.1.at (asked_sets is_append found.0.1 q found.2))))

  -- masked modes and base entries do not meet
  pub slices_same : (i j : ℕ) (a b : Line) → i ≡ j → IsAt lines i a → IsAt lines j b → a ≡ b
  slices_same i j a b e h g = same (sym h ∙ ap (slice_get lines) e ∙ g)
    where
      same : Some a ≡ Some b → a ≡ b
      same k = cc

  mixed_none : has_names q ≡ true → list_any (is_adjusting is_masked) (flat_map (λ (line : Listed). operations line.1 q) (ordered (enumerate_from 0 lines))) ≡ true
      → list_any (is_adjusting gives_base) (flat_map (λ (line : Listed). operations line.1 q) (ordered (enumerate_from 0 lines))) ≡ true → ⊥
  mixed_none named m g = by (zero_or_more (a.0.0 - b.0.0)) (zero_or_more (b.0.0 - a.0.0))
    where
      a : (line : Listed) × IsListed lines line × (list_any (is_adjusting is_masked) (operations line.1 q) ≡ true)
      a = some_line q (IsListed lines) (is_adjusting is_masked) (ordered (enumerate_from 0 lines)) in_order m

      b : (line : Listed) × IsListed lines line × (list_any (is_adjusting gives_base) (operations line.1 q) ≡ true)
      b = some_line q (IsListed lines) (is_adjusting gives_base) (ordered (enumerate_from 0 lines)) in_order g

      masked : has_masked_mode a.0.1 ≡ true
      masked = sets_masked a.0.1 (action_of a.0.1) (asked a.0.1) (asked_sets is_masked a.0.1 q a.2)

      base : sets_base b.0.1 ≡ true
      base = asked_sets gives_base b.0.1 q b.2

      reached_first : reaches a.0.1 q ≡ true
      reached_first = asked_reaches is_masked a.0.1 a.1.is q a.2

      reached_second : reaches b.0.1 q ≡ true
      reached_second = asked_reaches gives_base b.0.1 b.1.is q b.2

      both_in_one : a.0.1 ≡ b.0.1 → ⊥
      both_in_one e = true_not_false (has_mixed_mask (sets_of (action_of a.0.1)))
          (ap (λ t. t && list_any (is_adjusting gives_base) (sets_of (action_of a.0.1))) (asked_sets is_masked a.0.1 q a.2) ∙ ap (λ (l : Line). list_any (is_adjusting gives_base) (sets_of (action_of l))) e ∙ base)
          (sets_unmixed a.0.1 (action_of a.0.1) (asked a.0.1))

      by : (a.0.0 - b.0.0 ≡ 0) ⊎ (1 ≤ a.0.0 - b.0.0) → (b.0.0 - a.0.0 ≡ 0) ⊎ (1 ≤ b.0.0 - a.0.0) → ⊥
      by (inl z) (inl y) = both_in_one (slices_same a.0.0 b.0.0 a.0.1 b.0.1 (omega (arith, z, y)) a.1.at b.1.at)
      by (inr z) y = repeatable a.0.0 reason.Mask (HasReason.mask a.0.1 b.0.1 b.0.0 q a.1.at b.1.at (omega (arith, z)) named (reached_second, reached_first) (inr (base, masked)))
      by (inl z) (inr y) = repeatable b.0.0 reason.Mask (HasReason.mask b.0.1 a.0.1 a.0.0 q b.1.at a.1.at (omega (arith, y)) named (reached_first, reached_second) (inl (masked, base)))

  mask_none : has_names q ≡ true → has_mixed_mask (flat_map (λ (line : Listed). operations line.1 q) (ordered (enumerate_from 0 lines))) ≡ false
  mask_none named = false_from_ne_true _ (λ h. (let two = and_parts _ _ h in mixed_none named two.0 two.1))

  -- no make comes late
  pub makers_adjust_none : AllByRecursion (λ (line : Listed). is_adjusting_line line.1 ≡ false) (fold placed [] (filter (λ (l : Listed). is_creating l.1) (enumerate_from 0 lines)))
  makers_adjust_none = at (fold placed [] (filter (λ (l : Listed). is_creating l.1) (enumerate_from 0 lines))) (all_makers (IsListed lines) (enumerate_from 0 lines) (all_at_places lines are)) (makers_create (enumerate_from 0 lines))
    where
      at : (ls : List Listed) → AllByRecursion (IsListed lines) ls → AllByRecursion (λ (line : Listed). is_creating line.1 ≡ true) ls → AllByRecursion (λ (line : Listed). is_adjusting_line line.1 ≡ false) ls
      at [] h g = tt
      at (l ∷ ls) h g = (creating_adjusts_none l.1 h.0.is (creating_row l.1 h.0.is g.0), at ls h.1 g.1)

  make_none : has_late_make (flat_map (λ (line : Listed). operations line.1 q) (ordered (enumerate_from 0 lines))) ≡ false
  make_none =
      ap has_late_make (flat_map-append (λ (line : Listed). operations line.1 q) (fold placed [] (filter (λ (l : Listed). is_creating l.1) (enumerate_from 0 lines))) (filter (λ (l : Listed). is_adjusting_line l.1) (enumerate_from 0 lines)))
      ∙ timely q (flat_map (λ (line : Listed). operations line.1 q) (fold placed [] (filter (λ (l : Listed). is_creating l.1) (enumerate_from 0 lines)))) (flat_map (λ (line : Listed). operations line.1 q) (filter (λ (l : Listed). is_adjusting_line l.1) (enumerate_from 0 lines)))
      (makers_begin q (fold placed [] (filter (λ (l : Listed). is_creating l.1) (enumerate_from 0 lines))) makers_adjust_none (makers_ordered lines distinct))
      (adjusters_adjust q (filter (λ (l : Listed). is_adjusting_line l.1) (enumerate_from 0 lines)) (all_tests (λ (l : Listed). is_adjusting_line l.1) (enumerate_from 0 lines)))

  -- so nothing is said against the operations at the path, where it can stand in a tree
  pub operations_repeatable : has_names q ≡ true → reasons.IsRepeatable (operations_of (in_create_order lines) q)
  operations_repeatable named = subst reasons.IsRepeatable
      (sym (asked_parts (in_create_order lines) q ∙ ap parts (unlisted q (ordered (enumerate_from 0 lines)))))
      (repeatable-parts (flat_map (λ (line : Listed). operations line.1 q) (ordered (enumerate_from 0 lines))) (record { append = append_none; mask = mask_none named; make = make_none }))
