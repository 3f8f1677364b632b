-- In a closed region what a line leaves depends on the object there alone.
use Rattle.std.specs.Prelude.{◌≡◌, ◌⊎◌, ℕ, ◌<◌, Bool, true, false, not, cond, ◌&&◌, ◌||◌, List, [], ◌∷◌, ◌++◌, map, filter, find, length, slice_get, Option, Some, None, IfSome, is_some, option_map}
use Rattle.std.proofs.Common.{zero, suc, refl, sym, ap, subst, ◌∙◌, inl, inr, arith}
use Rattle.std.proofs.lemmas.Bool.{and_parts, or_left, or_right}
use Rattle.std.proofs.lemmas.List.Folds.{list_any-append}
use Rattle.std.specs.FinMap as fin
use Rattle.std.specs.List.{cons_option, list_all, list_any}
use Rattle.std.specs.Option.{option_map_or}
use Rattle.pv_walk.specs.declared.object_state.ObjectState.{ObjectState}
use Rattle.pv_laws.proofs.Copies.{childless_same, turns_same, decide_some}
use Rattle.pv_lines.specs.declared.line.Line.{Line}
use Rattle.pv_path.specs.Names.{is_staging}
use Rattle.pv_path.specs.Paths.{Path, is_prefix, same_path, rest_under, has_staging}
use Rattle.pv_path.proofs.PathLaws.{is_prefix-append, is_prefix-refl, is_prefix-trans, prefixes_compare, is_some-rest_under}
use Rattle.pv_path.proofs.Tests.{true_not_false}
use Rattle.pv_steps.specs.Trees.{child_name}
use Rattle.pv_steps.proofs.NameLaws.{child_name-Some}
use Rattle.pv_table.specs.declared.action.Copying.{Copying}
use Rattle.pv_table.specs.declared.action.Action.{Action}
use Rattle.pv_table.specs.declared.action.Action.TheVariants.{Copy}
use Rattle.pv_table.specs.ActionTable.{action_of}
use Rattle.pv_table.specs.Pointwise.{ObjectStates, view, after_turn, at_made, point, pointwise_after}
use Rattle.pv_table.specs.Reaching.{path_in}
use Rattle.pv_table.specs.Turns.{copied, copy_of, copying_turn, decide, is_childless, is_visible_child, topped_by}
use Rattle.pv_explain.specs.declared.region.Copied.{Copied}
use Rattle.pv_explain.specs.declared.region.Region.{Region}
use Rattle.pv_explain.specs.Following.{copies_of, covers, leads, holds, is_open, IsClosed, IsWithin, HoldsCopy}
use Rattle.pv_explain.specs.Following as following
use Rattle.pv_explain.proofs.PointLaws.{placed_by, point_copy, within_after}

-- ---- lists

pub or_cases : (a b : Bool) → (a || b) ≡ true → (a ≡ true) ⊎ (b ≡ true)
or_cases true b e = inl refl
or_cases false b e = inr e

any_split : (f g h : Path → Bool) → ((x : Path) → f x ≡ true → (g x ≡ true) ⊎ (h x ≡ true)) → (xs : List Path) → list_any f xs ≡ true → (list_any g xs ≡ true) ⊎ (list_any h xs ≡ true)
any_split f g h each [] e = inl e
any_split f g h each (x ∷ xs) e = by (or_cases (f x) (list_any f xs) e) (any_split f g h each xs)
  where
    sides : (g x ≡ true) ⊎ (h x ≡ true) → (list_any g (x ∷ xs) ≡ true) ⊎ (list_any h (x ∷ xs) ≡ true)
    sides (inl k) = inl (or_left (g x) (list_any g xs) k)
    sides (inr k) = inr (or_left (h x) (list_any h xs) k)

    later : (list_any g xs ≡ true) ⊎ (list_any h xs ≡ true) → (list_any g (x ∷ xs) ≡ true) ⊎ (list_any h (x ∷ xs) ≡ true)
    later (inl k) = inl (or_right (g x) (list_any g xs) k)
    later (inr k) = inr (or_right (h x) (list_any h xs) k)

    by : (f x ≡ true) ⊎ (list_any f xs ≡ true) → (list_any f xs ≡ true → (list_any g xs ≡ true) ⊎ (list_any h xs ≡ true)) → (list_any g (x ∷ xs) ≡ true) ⊎ (list_any h (x ∷ xs) ≡ true)
    by (inl k) rest = sides (each x k)
    by (inr k) rest = later (rest k)

any_same : (f g : Path → Bool) → ((x : Path) → f x ≡ true → g x ≡ true) → (xs : List Path) → list_any f xs ≡ true → list_any g xs ≡ true
any_same f g each xs e = by (any_split f g g (λ x k. inl (each x k)) xs e)
  where
    by : (list_any g xs ≡ true) ⊎ (list_any g xs ≡ true) → list_any g xs ≡ true
    by (inl k) = k
    by (inr k) = k

-- ---- what a region has

covers_below : (tops : List Path) (p q : Path) → is_prefix p q ≡ true → covers tops p ≡ true → covers tops q ≡ true
covers_below tops p q above e = any_same (λ top. is_prefix top p) (λ top. is_prefix top q) (λ top k. is_prefix-trans top p q k above) tops e

leads_above : (ends : List Path) (p q : Path) → is_prefix p q ≡ true → leads ends q ≡ true → leads ends p ≡ true
leads_above ends p q above e = any_same (λ end. is_prefix q end) (λ end. is_prefix p end) (λ end k. is_prefix-trans p q end above k) ends e

module _ (region : Region) where
  abbrev tops : List Path
  tops = region.tops.items

  abbrev ends : List Path
  ends = region.ends.items

  pub holds_covered : (q : Path) → covers tops q ≡ true → holds region q ≡ true
  holds_covered q e = or_left (covers tops q || leads tops q) (leads ends q) (or_left (covers tops q) (leads tops q) e)

  pub holds_end : (q : Path) → leads ends q ≡ true → holds region q ≡ true
  holds_end q e = or_right (covers tops q || leads tops q) (leads ends q) e

  holds_top : (q : Path) → leads tops q ≡ true → holds region q ≡ true
  holds_top q e = or_left (covers tops q || leads tops q) (leads ends q) (or_right (covers tops q) (leads tops q) e)

  -- and all above it
  pub holds_above : (p q : Path) → is_prefix p q ≡ true → holds region q ≡ true → holds region p ≡ true
  holds_above p q above e = by (or_cases (covers tops q || leads tops q) (leads ends q) e)
    where
      high : (covers tops p ≡ true) ⊎ (leads tops p ≡ true) → holds region p ≡ true
      high (inl k) = holds_covered p k
      high (inr k) = holds_top p k

      low : (covers tops q ≡ true) ⊎ (leads tops q ≡ true) → holds region p ≡ true
      low (inl k) = high (any_split (λ top. is_prefix top q) (λ top. is_prefix top p) (λ top. is_prefix p top) (λ top f. prefixes_compare top p q f above) tops k)
      low (inr k) = holds_top p (leads_above tops p q above k)

      by : ((covers tops q || leads tops q) ≡ true) ⊎ (leads ends q ≡ true) → holds region p ≡ true
      by (inl k) = low (or_cases (covers tops q) (leads tops q) k)
      by (inr k) = holds_end p (leads_above ends p q above k)

-- ---- a line that copies

copy_is : (line : Line) (copying : Copying) → action_of line ≡ Copy copying → following.copy_of line ≡ Some (record { to = path_in line.path; from = copying.source })
copy_is line copying e = ap (λ (d : Action). option_map (λ source. record { to = path_in line.path; from = source }) (copied d)) e

visible_below : (path q : Path) → is_visible_child path q ≡ true → is_prefix path q ≡ true
visible_below path q h = by (child_name path q) refl h
  where
    by : (o : Option (List ℕ)) → child_name path q ≡ o → option_map_or (λ name. not (is_staging name)) o false ≡ true → is_prefix path q ≡ true
    by None e g = let no : false ≡ true = g in cc
    by (Some name) e g = ap (is_prefix path) (child_name-Some path q name e) ∙ is_prefix-append path (name ∷ [])

module _ (region : Region) (line : Line) (held : HoldsCopy region line) (r s : ObjectStates) (within : IsWithin (holds region) r s) where
  module _ (copying : Copying) (e : action_of line ≡ Copy copying) where
    abbrev own : Path
    own = path_in line.path

    abbrev source : Path
    source = copying.source

    has_copy : (holds region source ≡ true) × (is_open region (record { to = own; from = source }) ≡ false)
    has_copy = subst (λ (o : Option Copied). IfSome o (λ copy. (holds region copy.from ≡ true) × (is_open region copy ≡ false))) (copy_is line copying e) held

    source_same : fin.get r source ≡ fin.get s source
    source_same = within.same source has_copy.0

    module _ (here : holds region own ≡ true) where
      both : (covers region.tops.items own ≡ true) × (covers region.tops.items source ≡ true)
      both = by (covers region.tops.items own) (covers region.tops.items source) refl refl (sym (ap (λ b. b && not (covers region.tops.items own && covers region.tops.items source)) here) ∙ has_copy.1)
        where
          by : (a b : Bool) → covers region.tops.items own ≡ a → covers region.tops.items source ≡ b → not (covers region.tops.items own && covers region.tops.items source) ≡ false → (covers region.tops.items own ≡ true) × (covers region.tops.items source ≡ true)
          by true true f g h = (f, g)
          by true false f g h = let no : true ≡ false = sym (λ i. not (f i && g i)) ∙ h in cc
          by false b f g h = let no : true ≡ false = sym (λ i. not (f i && covers region.tops.items source)) ∙ h in cc

      copies_same : (rest : Path) → copy_of copying (view r) rest ≡ copy_of copying (view s) rest
      copies_same [] = ap (option_map (topped_by copying)) source_same
      copies_same (name ∷ rest) = ap (cond (has_staging (name ∷ rest)) None) (
          within.same (source ++ name ∷ rest) (holds_covered region (source ++ name ∷ rest) (covers_below region.tops.items source (source ++ name ∷ rest) (is_prefix-append source (name ∷ rest)) both.1)))

      hollow_same : is_childless (view r) own ≡ is_childless (view s) own
      hollow_same = childless_same (view r) (view s) own (λ q visible.
          sym (fin.contains_key-keys r q)
          ∙ ap is_some (within.same q (holds_covered region q (covers_below region.tops.items own q (visible_below own q visible) both.0)))
          ∙ fin.contains_key-keys s q)

      turn_same : (b : ObjectState) → fin.get s source ≡ Some b → decide (Copy copying) (view r) own ≡ decide (Copy copying) (view s) own
      turn_same b f =
          decide_some copying (view r) own b (source_same ∙ f)
          ∙ turns_same copying (view r) (view s) own b.body.kind (fin.get r own) hollow_same copies_same
          ∙ ap (copying_turn copying (view s) own b.body.kind) (within.same own here)
          ∙ sym (decide_some copying (view s) own b f)

    module _ (q : Path) (there : holds region q ≡ true) where
      rest_same : (b : ObjectState) → fin.get s source ≡ Some b → (o : Option Path) → rest_under own q ≡ o
          → option_map_or (λ rest. after_turn (decide (Copy copying) (view r) own) rest (fin.get s q)) o (fin.get s q)
          ≡ option_map_or (λ rest. after_turn (decide (Copy copying) (view s) own) rest (fin.get s q)) o (fin.get s q)
      rest_same b f None g = refl
      rest_same b f (Some rest) g =
          ap (λ turn. after_turn turn rest (fin.get s q)) (turn_same (holds_above region own q (sym (is_some-rest_under own q) ∙ ap is_some g) there) b f)

      placed_same : (b : ObjectState) → fin.get s source ≡ Some b → (a : Bool)
          → placed_by a (rest_under own q) (decide (Copy copying) (view r) own) (fin.get s q) ≡ placed_by a (rest_under own q) (decide (Copy copying) (view s) own) (fin.get s q)
      placed_same b f true = refl
      placed_same b f false = rest_same b f (rest_under own q) refl

      made_same : (o : Option ObjectState) → fin.get s source ≡ o
          → cond (is_some o) (at_made (Copy copying) own r q) (fin.get r q) ≡ cond (is_some o) (at_made (Copy copying) own s q) (fin.get s q)
      made_same None f = within.same q there
      made_same (Some b) f =
          ap (placed_by (is_prefix q own && not (same_path q own)) (rest_under own q) (decide (Copy copying) (view r) own)) (within.same q there)
          ∙ placed_same b f (is_prefix q own && not (same_path q own))

      copy_same : point line r q ≡ point line s q
      copy_same =
          point_copy line copying r q e
          ∙ ap (λ (o : Option ObjectState). cond (is_some o) (at_made (Copy copying) own r q) (fin.get r q)) source_same
          ∙ made_same (fin.get s source) refl
          ∙ sym (point_copy line copying s q e)

  -- what a line leaves in the region, from the object there alone
  pub region_after : IsWithin (holds region) (pointwise_after r line) (pointwise_after s line)
  region_after = within_after (holds region) (holds_above region) line r s within (λ copying e q there. copy_same copying e q there)

-- ---- a closed region

-- what is so of each copy is so of that of each line
copy_among : (f : Copied → Bool) (o : Option Copied) (copies : List Copied) (copy : Copied) → o ≡ Some copy → list_all f (cons_option o copies) ≡ true → f copy ≡ true
copy_among f None copies copy e h = absurd (let no : None ≡ Some copy = e in cc)
copy_among f (Some x) copies copy e h = let same : x ≡ copy = cc in ap f (sym same) ∙ (and_parts (f x) (list_all f copies) h).0

copy_later : (f : Copied → Bool) (o : Option Copied) (copies : List Copied) → list_all f (cons_option o copies) ≡ true → list_all f copies ≡ true
copy_later f None copies h = h
copy_later f (Some x) copies h = (and_parts (f x) (list_all f copies) h).1

of_copies : (f : Copied → Bool) (lines : List Line) → list_all f (copies_of lines) ≡ true → (place : ℕ) (line : Line) → slice_get lines place ≡ Some line → (copy : Copied) → following.copy_of line ≡ Some copy → f copy ≡ true
of_copies f [] h place line at copy is = absurd cc
of_copies f (x ∷ lines) h zero line at copy is = let same : x ≡ line = cc in copy_among f (following.copy_of x) (copies_of lines) copy (ap following.copy_of same ∙ is) h
of_copies f (x ∷ lines) h (suc place) line at copy is = of_copies f lines (copy_later f (following.copy_of x) (copies_of lines) h) place line at copy is

abbrev sources : List Copied → List Path
sources copies = map (λ (copy : Copied). copy.from) copies

source_first : (o : Option Copied) (copies : List Copied) (copy : Copied) → o ≡ Some copy → leads (sources (cons_option o copies)) copy.from ≡ true
source_first None copies copy e = absurd (let no : None ≡ Some copy = e in cc)
source_first (Some x) copies copy e = let same : x ≡ copy = cc in or_left (is_prefix copy.from x.from) (leads (sources copies) copy.from) (ap (λ (c : Copied). is_prefix copy.from c.from) same ∙ is_prefix-refl copy.from)

source_later : (o : Option Copied) (copies : List Copied) (q : Path) → leads (sources copies) q ≡ true → leads (sources (cons_option o copies)) q ≡ true
source_later None copies q h = h
source_later (Some x) copies q h = or_right (is_prefix q x.from) (leads (sources copies) q) h

source_leads : (lines : List Line) (place : ℕ) (line : Line) → slice_get lines place ≡ Some line → (copy : Copied) → following.copy_of line ≡ Some copy → leads (sources (copies_of lines)) copy.from ≡ true
source_leads [] place line at copy is = absurd cc
source_leads (x ∷ lines) zero line at copy is = let same : x ≡ line = cc in source_first (following.copy_of x) (copies_of lines) copy (ap following.copy_of same ∙ is)
source_leads (x ∷ lines) (suc place) line at copy is = source_later (following.copy_of x) (copies_of lines) copy.from (source_leads lines place line at copy is)

module _ (lines : List Line) (path : Path) (region : Region) (closed : IsClosed lines path region) where
  pub holds_path : holds region path ≡ true
  holds_path = holds_end region path (ap (λ (ends : List Path). leads ends path) closed.ends ∙ or_left (is_prefix path path) (leads (sources (copies_of lines)) path) (is_prefix-refl path))

  pub holds_root : holds region [] ≡ true
  holds_root = holds_above region [] path refl holds_path

  pub holds_copy : (place : ℕ) (line : Line) → slice_get lines place ≡ Some line → HoldsCopy region line
  holds_copy place line at = by (following.copy_of line) refl
    where
      shut : (b : Bool) → not b ≡ true → b ≡ false
      shut true h = let no : false ≡ true = h in cc
      shut false h = refl

      by : (o : Option Copied) → following.copy_of line ≡ o → IfSome o (λ copy. (holds region copy.from ≡ true) × (is_open region copy ≡ false))
      by None e = tt
      by (Some copy) e = (
        holds_end region copy.from (ap (λ (ends : List Path). leads ends copy.from) closed.ends ∙ or_right (is_prefix copy.from path) (leads (sources (copies_of lines)) copy.from) (source_leads lines place line at copy e)),
        shut (is_open region copy) (of_copies (λ c. not (is_open region c)) lines closed.closed place line at copy e),
      )

-- ---- the region grows

-- copies of which a region does not have all
abbrev pub left_out : List Path → List Copied → List Copied
left_out tops copies = filter (λ (copy : Copied). not (covers tops copy.to && covers tops copy.from)) copies

less_cases : (b a : ℕ) → (b < a) ⊎ (a < suc b)
less_cases b zero = inr (omega arith)
less_cases zero (suc a) = inl (omega arith)
less_cases (suc b) (suc a) = by (less_cases b a)
  where
    by : (b < a) ⊎ (a < suc b) → (suc b < suc a) ⊎ (suc a < suc (suc b))
    by (inl m) = inl (omega (arith, m))
    by (inr m) = inr (omega (arith, m))

one_more : (a b : ℕ) → (b < a → ⊥) → a < suc b
one_more a b k = by (less_cases b a)
  where
    by : (b < a) ⊎ (a < suc b) → a < suc b
    by (inl m) = absurd (k m)
    by (inr m) = m

module _ (f g h : Copied → Bool) (some : (x : Copied) → f x ≡ true → g x ≡ true) (less : (x : Copied) → h x ≡ true → g x ≡ true) where
  not_more : (xs : List Copied) → (length (filter g xs) < length (filter h xs)) → ⊥
  not_more [] k = omega (arith, k)
  not_more (x ∷ xs) k = by (h x) refl (g x) refl k (not_more xs)
    where
      by : (a : Bool) → h x ≡ a → (b : Bool) → g x ≡ b → length (cond b (x ∷ filter g xs) (filter g xs)) < length (cond a (x ∷ filter h xs) (filter h xs)) → (length (filter g xs) < length (filter h xs) → ⊥) → ⊥
      by true e true d m rest = rest (omega (arith, m))
      by true e false d m rest = true_not_false (g x) (less x e) d
      by false e true d m rest = rest (omega (arith, m))
      by false e false d m rest = rest m

  fewer : (xs : List Copied) (x : Copied) → find f xs ≡ Some x → h x ≡ false → length (filter h xs) < length (filter g xs)
  fewer [] x e gone = absurd (let none : None ≡ Some x = e in cc)
  fewer (y ∷ xs) x e gone = by (f y) refl e (h y) refl (g y) refl (fewer xs x)
    where
      by : (c : Bool) → f y ≡ c → cond c (Some y) (find f xs) ≡ Some x → (a : Bool) → h y ≡ a → (b : Bool) → g y ≡ b → (find f xs ≡ Some x → h x ≡ false → length (filter h xs) < length (filter g xs))
          → length (cond a (y ∷ filter h xs) (filter h xs)) < length (cond b (y ∷ filter g xs) (filter g xs))
      by true k m true p b q rest = let same : y ≡ x = cc in absurd (true_not_false (h x) (ap h (sym same) ∙ p) gone)
      by true k m false p true q rest = one_more (length (filter h xs)) (length (filter g xs)) (not_more xs)
      by true k m false p false q rest = absurd (true_not_false (g y) (some y k) q)
      by false k m true p true q rest = let n = rest m gone in omega (arith, n)
      by false k m true p false q rest = absurd (true_not_false (g y) (less y p) q)
      by false k m false p true q rest = let n = rest m gone in omega (arith, n)
      by false k m false p false q rest = rest m gone

-- where none is found, none passes
pub none_found : (f : Copied → Bool) (xs : List Copied) → find f xs ≡ None → list_all (λ x. not (f x)) xs ≡ true
none_found f [] e = refl
none_found f (x ∷ xs) e = by (f x) e (none_found f xs)
  where
    by : (c : Bool) → cond c (Some x) (find f xs) ≡ None → (find f xs ≡ None → list_all (λ x. not (f x)) xs ≡ true) → (not c && list_all (λ x. not (f x)) xs) ≡ true
    by true k rest = absurd (let no : Some x ≡ None = k in cc)
    by false k rest = rest k

covers_more : (tops more : List Path) (q : Path) → covers tops q ≡ true → covers (tops ++ more) q ≡ true
covers_more tops more q e = list_any-append (λ top. is_prefix top q) tops more ∙ or_left (covers tops q) (covers more q) e

covers_last : (tops more : List Path) (q : Path) → covers more q ≡ true → covers (tops ++ more) q ≡ true
covers_last tops more q e = list_any-append (λ top. is_prefix top q) tops more ∙ or_right (covers tops q) (covers more q) e

-- with the two ends of a copy that comes into a region it has all of one copy more
pub fewer_left : (region : Region) (copies : List Copied) (copy : Copied) → find (is_open region) copies ≡ Some copy
    → length (left_out (region.tops.items ++ copy.to ∷ copy.from ∷ []) copies) < length (left_out region.tops.items copies)
fewer_left region copies copy e = fewer (is_open region) (out tops) (out more) opened kept copies copy e whole
  where
    tops : List Path
    tops = region.tops.items

    more : List Path
    more = region.tops.items ++ copy.to ∷ copy.from ∷ []

    out : List Path → Copied → Bool
    out ts c = not (covers ts c.to && covers ts c.from)

    opened : (x : Copied) → is_open region x ≡ true → out tops x ≡ true
    opened x k = (and_parts (holds region x.to) (out tops x) k).1

    kept : (x : Copied) → out more x ≡ true → out tops x ≡ true
    kept x k = by (covers tops x.to) refl (covers tops x.from) refl
      where
        by : (a : Bool) → covers tops x.to ≡ a → (b : Bool) → covers tops x.from ≡ b → not (a && b) ≡ true
        by true p true q = let no : false ≡ true = sym (λ i. not (covers_more tops (copy.to ∷ copy.from ∷ []) x.to p i && covers_more tops (copy.to ∷ copy.from ∷ []) x.from q i)) ∙ k in cc
        by true p false q = refl
        by false p b q = refl

    whole : out more copy ≡ false
    whole = λ i. not (
        covers_last tops (copy.to ∷ copy.from ∷ []) copy.to (or_left (is_prefix copy.to copy.to) (covers (copy.from ∷ []) copy.to) (is_prefix-refl copy.to)) i
        && covers_last tops (copy.to ∷ copy.from ∷ []) copy.from (or_right (is_prefix copy.to copy.from) (covers (copy.from ∷ []) copy.from) (or_left (is_prefix copy.from copy.from) false (is_prefix-refl copy.from))) i)
