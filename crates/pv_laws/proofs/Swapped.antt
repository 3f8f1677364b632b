-- Beside the paths to which lines copy what is there, such a line does what a line that makes a directory there does.
use Rattle.std.specs.Prelude.{◌≡◌, ◌⊎◌, ℕ, ◌+◌, Bool, true, false, not, cond, ◌&&◌, ◌||◌, List, [], ◌∷◌, ◌++◌, map, filter, fold, Option, Some, None, is_some, option_map, slice_get}
use Rattle.std.proofs.Common.{refl, sym, ap, subst, ◌∙◌, inl, inr, arith}
use Rattle.std.proofs.lemmas.List.{map-append}
use Rattle.std.proofs.lemmas.Option.{slice_get-map}
use Rattle.std.specs.List.{list_any, enumerate_from, AllByRecursion}
use Rattle.std.proofs.lemmas.Bool.{or_left, or_right}
use Rattle.pv_path.specs.Paths.{Path, same_path, is_prefix}
use Rattle.pv_steps.specs.Trees.{Files, places}
use Rattle.pv_walk.specs.declared.operation.Operation.TheVariants.{Make, Erase}
use Rattle.pv_walk.specs.Nodes.{object_states_of}
use Rattle.pv_lines.specs.declared.line.Argument.TheVariants as argument
use Rattle.pv_lines.specs.declared.line.Line.{Line}
use Rattle.pv_lines.specs.declared.line.LinePath.{LinePath}
use Rattle.pv_lines.specs.declared.line.LinePath.TheVariants.{Literal}
use Rattle.pv_lines.specs.Lines.{IsLine, IsLinePath}
use Rattle.pv_lines.specs.Types.{creating, with_age, with_root}
use Rattle.pv_table.specs.declared.action.Copying.{Copying}
use Rattle.pv_table.specs.declared.action.Action.{Action}
use Rattle.pv_table.specs.declared.action.Action.TheVariants.{Create, Copy, Adjust, Idle}
use Rattle.pv_table.specs.declared.reason.Reason.{Reason}
use Rattle.pv_table.specs.Active.{make_same, are_distinct, Listed, placed, is_adjusting_line, ordered, in_create_order}
use Rattle.pv_table.specs.declared.action.Making.{Making}
use Rattle.pv_table.specs.Asked.{clears_below, made_at, operations}
use Rattle.pv_table.specs.ActionTable.{action_of}
use Rattle.pv_table.specs.Pointwise.{parent_object_state}
use Rattle.pv_table.specs.Reaching.{names, names_above, path_in, is_creating, reaches_below, reaches, governs}
use Rattle.pv_table.specs.Repeatable.{IsAt, HasReason, IsRepeatable, append, source, below, input, mask, appends, sets_base, has_masked_mode, changes_content}
use Rattle.pv_table.specs.Turns.{copied}
use Rattle.pv_laws.proofs.Lines.{copy_literal, asked_made}
use Rattle.pv_laws.proofs.Making.{asked_above, asked_else}
use Rattle.pv_laws.proofs.Repeated.{copy_adjusts_not}
use Rattle.pv_laws.proofs.Sets.{impossible}

-- a directory made at the path of a line, of which nothing is set
abbrev pub object_state_directory : Line → Line
object_state_directory line = record line { letter = 100; plus = false; replace = false; encoded = false; purge = false; mode = None; user = None; group = None; age = None; argument = argument.Ignored }

-- whether what a line copies stands in a tree
abbrev pub copies_some : Files → Action → Bool
copies_some t (Copy copying) = is_some (object_states_of (places t) copying.source)
copies_some t action = false

abbrev pub swapped : Files → Line → Line
swapped t line = cond (copies_some t (action_of line)) (object_state_directory line) line

-- what is asked of each path by it
pub directory_asks : (line : Line) (q : Path) → same_path (path_in line.path) q ≡ false → operations (object_state_directory line) q ≡ cond (is_prefix q (path_in line.path)) (Make parent_object_state ∷ []) []
directory_asks line q other = made _ refl
  where
    clears : Action → Bool
    clears (Create making) = clears_below making
    clears action = false

    none_goes : (b : Bool) → cond (b && false) (Erase ∷ []) [] ≡ []
    none_goes b = grind arith

    made : (making : Making) → action_of (object_state_directory line) ≡ Create making → operations (object_state_directory line) q ≡ cond (is_prefix q (path_in line.path)) (Make parent_object_state ∷ []) []
    made making e = asked_made (object_state_directory line) making q e ∙ at (is_prefix q (path_in line.path)) refl
      where
        at : (b : Bool) → is_prefix q (path_in line.path) ≡ b → made_at making (path_in line.path) q ≡ cond b (Make parent_object_state ∷ []) []
        at true f = asked_above making (path_in line.path) q other f
        at false f =
            asked_else making (path_in line.path) q other f
            ∙ ap (λ b. cond (is_prefix (path_in line.path) q && b) (Erase ∷ []) []) (sym (ap clears e))
            ∙ none_goes (is_prefix (path_in line.path) q)

-- a line is as it was, or it copies what is there and is swapped
pub data IsSwap (t : Files) (line : Line) (new : Line) : Type 0 where
  same : new ≡ line → copies_some t (action_of line) ≡ false → IsSwap t line new
  directory : (copying : Copying) → action_of line ≡ Copy copying → is_some (object_states_of (places t) copying.source) ≡ true → new ≡ object_state_directory line → IsSwap t line new

pub swap : (t : Files) (line : Line) → IsSwap t line (swapped t line)
swap t line = by (action_of line) refl (copies_some t (action_of line)) refl
  where
    by : (d : Action) → action_of line ≡ d → (b : Bool) → copies_some t (action_of line) ≡ b → IsSwap t line (swapped t line)
    by d e false f = same (ap (λ c. cond c (object_state_directory line) line) f) f
    by (Copy copying) e true f = directory copying e (sym (ap (copies_some t) e) ∙ f) (ap (λ c. cond c (object_state_directory line) line) f)
    by (Create making) e true f = impossible (sym (ap (copies_some t) e) ∙ f)
    by (Adjust adjustment) e true f = impossible (sym (ap (copies_some t) e) ∙ f)
    by Idle e true f = impossible (sym (ap (copies_some t) e) ∙ f)

-- ---- it is a line, and it stands where the line stood

module _ (t : Files) where
  pub swapped_path : (line : Line) → (swapped t line).path ≡ line.path
  swapped_path line = elim (copies_some t (action_of line)) as (λ b. (cond b (object_state_directory line) line).path ≡ line.path) [ true ↦ refl | false ↦ refl ]

  pub swapped_adjustment : (line : Line) → is_adjusting_line (swapped t line) ≡ is_adjusting_line line
  swapped_adjustment line = by (swap t line)
    where
      by : IsSwap t line (swapped t line) → is_adjusting_line (swapped t line) ≡ is_adjusting_line line
      by (same e f) = ap is_adjusting_line e
      by (directory copying e f g) = ap is_adjusting_line g ∙ sym (copy_adjusts_not [] line copying e)

  pub swapped_creating : (line : Line) → is_creating (swapped t line) ≡ is_creating line
  swapped_creating line = ap (λ (path : LinePath). is_creating (record line { path = path })) (swapped_path line)

  pub swapped_is : (line : Line) → IsLine line → IsLine (swapped t line)
  swapped_is line is = by (swap t line)
    where
      fits : (p q : LinePath) → p ≡ Literal (path_in q) → IsLinePath is.row p → IsLinePath (with_root (with_age (creating 100))) p
      fits p q e h = grind arith

      by : IsSwap t line (swapped t line) → IsLine (swapped t line)
      by (same e f) = subst IsLine (sym e) is
      by (directory copying e f g) = subst IsLine (sym g) (record {
        row = with_root (with_age (creating 100));
        is_type = refl;
        fits = record {
          letter = refl;
          plus = λ h. impossible h;
          replace = λ h. impossible h;
          encoded = λ h. impossible h;
          purge = λ h. impossible h;
          path = fits line.path line.path (copy_literal line is copying e) is.fits.path;
          root = λ h. (refl, refl);
          mode = tt;
          user = tt;
          group = tt;
          age = tt;
          argument = tt;
        };
      })

  pub all_swapped : (lines : List Line) → AllByRecursion IsLine lines → AllByRecursion IsLine (map (swapped t) lines)
  all_swapped [] h = tt
  all_swapped (line ∷ lines) h = (swapped_is line h.0, all_swapped lines h.1)

  -- no two make one object, as before
  make_same_swapped : (a b : Line) → make_same (swapped t a) (swapped t b) ≡ make_same a b
  make_same_swapped a b = λ i. make_same (record a { path = swapped_path a i }) (record b { path = swapped_path b i })

  some_same : (a : Line) (lines : List Line) → list_any (make_same (swapped t a)) (map (swapped t) lines) ≡ list_any (make_same a) lines
  some_same a [] = refl
  some_same a (b ∷ lines) = λ i. make_same_swapped a b i || some_same a lines i

  pub swapped_distinct : (lines : List Line) → are_distinct (map (swapped t) lines) ≡ are_distinct lines
  swapped_distinct [] = refl
  swapped_distinct (line ∷ lines) = λ i. not (some_same line lines i) && swapped_distinct lines i

  -- ---- the order

  abbrev relisted : Listed → Listed
  relisted l = (l.0, swapped t l.1)

  listed_swapped : (n : ℕ) (lines : List Line) → enumerate_from n (map (swapped t) lines) ≡ map relisted (enumerate_from n lines)
  listed_swapped n [] = refl
  listed_swapped n (line ∷ lines) = ap (λ ls. (n, swapped t line) ∷ ls) (listed_swapped (n + 1) lines)

  filter_swapped : (test : Line → Bool) → ((line : Line) → test (swapped t line) ≡ test line) → (ls : List Listed) → filter (λ (l : Listed). test l.1) (map relisted ls) ≡ map relisted (filter (λ (l : Listed). test l.1) ls)
  filter_swapped test alike [] = refl
  filter_swapped test alike (l ∷ ls) =
      ap (λ b. cond b (relisted l ∷ filter (λ (k : Listed). test k.1) (map relisted ls)) (filter (λ (k : Listed). test k.1) (map relisted ls))) (alike l.1)
      ∙ elim (test l.1) as (λ b. cond b (relisted l ∷ filter (λ (k : Listed). test k.1) (map relisted ls)) (filter (λ (k : Listed). test k.1) (map relisted ls)) ≡ map relisted (cond b (l ∷ filter (λ (k : Listed). test k.1) ls) (filter (λ (k : Listed). test k.1) ls))) [
        | true ↦ ap (λ ks. relisted l ∷ ks) (filter_swapped test alike ls)
        | false ↦ filter_swapped test alike ls
      ]

  placed_swapped : (ls : List Listed) (x : Listed) → placed (map relisted ls) (relisted x) ≡ map relisted (placed ls x)
  placed_swapped [] x = refl
  placed_swapped (l ∷ ls) x =
      (λ i. cond (is_prefix (path_in (swapped_path x.1 i)) (path_in (swapped_path l.1 i)) && not (same_path (path_in (swapped_path x.1 i)) (path_in (swapped_path l.1 i)))) (relisted x ∷ relisted l ∷ map relisted ls) (relisted l ∷ placed_swapped ls x i))
      ∙ elim (is_prefix (path_in x.1.path) (path_in l.1.path) && not (same_path (path_in x.1.path) (path_in l.1.path))) as (λ b. cond b (relisted x ∷ relisted l ∷ map relisted ls) (relisted l ∷ map relisted (placed ls x)) ≡ map relisted (cond b (x ∷ l ∷ ls) (l ∷ placed ls x))) [
        | true ↦ refl
        | false ↦ refl
      ]

  folded_swapped : (xs acc : List Listed) → fold placed (map relisted acc) (map relisted xs) ≡ map relisted (fold placed acc xs)
  folded_swapped [] acc = refl
  folded_swapped (x ∷ xs) acc = ap (λ ks. fold placed ks (map relisted xs)) (placed_swapped acc x) ∙ folded_swapped xs (placed acc x)

  unlisted_swapped : (ls : List Listed) → map (λ (l : Listed). l.1) (map relisted ls) ≡ map (swapped t) (map (λ (l : Listed). l.1) ls)
  unlisted_swapped [] = refl
  unlisted_swapped (l ∷ ls) = ap (λ ks. swapped t l.1 ∷ ks) (unlisted_swapped ls)

  pub in_order_swapped : (lines : List Line) → in_create_order (map (swapped t) lines) ≡ map (swapped t) (in_create_order lines)
  in_order_swapped lines =
      ap (λ ls. map (λ (l : Listed). l.1) (ordered ls)) (listed_swapped 0 lines)
      ∙ ap (map (λ (l : Listed). l.1)) (
      (λ i. fold placed [] (filter_swapped is_creating swapped_creating (enumerate_from 0 lines) i) ++ filter_swapped is_adjusting_line swapped_adjustment (enumerate_from 0 lines) i)
      ∙ ap (λ ls. ls ++ map relisted (filter (λ (l : Listed). is_adjusting_line l.1) (enumerate_from 0 lines))) (folded_swapped (filter (λ (l : Listed). is_creating l.1) (enumerate_from 0 lines)) [])
      ∙ sym (map-append relisted (fold placed [] (filter (λ (l : Listed). is_creating l.1) (enumerate_from 0 lines))) (filter (λ (l : Listed). is_adjusting_line l.1) (enumerate_from 0 lines))))
      ∙ unlisted_swapped (ordered (enumerate_from 0 lines))

  -- ---- no line has a hazard, as before

  line_at : (lines : List Line) (i : ℕ) (new : Line) → IsAt (map (swapped t) lines) i new → (line : Line) × IsAt lines i line × (new ≡ swapped t line)
  line_at lines i new h = by (slice_get lines i) refl (sym (slice_get-map (swapped t) lines i) ∙ h)
    where
      is : (a b : Line) → Some a ≡ Some b → b ≡ a
      is a b k = cc

      by : (o : Option Line) → slice_get lines i ≡ o → option_map (swapped t) o ≡ Some new → (line : Line) × IsAt lines i line × (new ≡ swapped t line)
      by None e g = absurd (let no : None ≡ Some new = g in cc)
      by (Some line) e g = (line, e, is (swapped t line) new g)

  named_alone : (line : Line) (q : Path) → reaches (object_state_directory line) q ≡ true → names line q ≡ true
  named_alone line q h = grind arith

  -- a line has what the line in its place has, if it has what a directory in its place would have
  fewer : (test : Line → Bool) (line : Line) → (test (object_state_directory line) ≡ true → test line ≡ true) → test (swapped t line) ≡ true → test line ≡ true
  fewer test line there h = by (swap t line)
    where
      by : IsSwap t line (swapped t line) → test line ≡ true
      by (same e f) = sym (ap test e) ∙ h
      by (directory copying e f g) = there (sym (ap test g) ∙ h)

  reaches_less : (line : Line) (q : Path) → reaches (swapped t line) q ≡ true → reaches line q ≡ true
  reaches_less line q = fewer (λ l. reaches l q) line (λ h. or_left (names line q) (reaches_below line && names_above line q) (named_alone line q h))

  governs_less : (line : Line) (q : Path) → governs (swapped t line) q ≡ true → governs line q ≡ true
  governs_less line q h = by (reaches (swapped t line) q) refl (ap (λ b. reaches (swapped t line) q || b) (sym parents) ∙ h)
    where
      parents : (is_creating (swapped t line) && is_prefix q (path_in (swapped t line).path)) ≡ (is_creating line && is_prefix q (path_in line.path))
      parents = λ i. swapped_creating line i && is_prefix q (path_in (swapped_path line i))

      by : (b : Bool) → reaches (swapped t line) q ≡ b → (reaches (swapped t line) q || (is_creating line && is_prefix q (path_in line.path))) ≡ true → governs line q ≡ true
      by true e g = or_left (reaches line q) (is_creating line && is_prefix q (path_in line.path)) (reaches_less line q e)
      by false e g = or_right (reaches line q) (is_creating line && is_prefix q (path_in line.path)) (sym (ap (λ b. b || (is_creating line && is_prefix q (path_in line.path))) e) ∙ g)

  appends_less : (line : Line) → appends (swapped t line) ≡ true → appends line ≡ true
  appends_less line = fewer appends line (λ h. impossible h)

  bases_less : (line : Line) → sets_base (swapped t line) ≡ true → sets_base line ≡ true
  bases_less line = fewer sets_base line (λ h. impossible h)

  masks_less : (line : Line) → has_masked_mode (swapped t line) ≡ true → has_masked_mode line ≡ true
  masks_less line = fewer has_masked_mode line (λ h. impossible h)

  copies_less : (line : Line) (path : Path) → copied (action_of (swapped t line)) ≡ Some path → copied (action_of line) ≡ Some path
  copies_less line path = by (swap t line)
    where
      by : IsSwap t line (swapped t line) → copied (action_of (swapped t line)) ≡ Some path → copied (action_of line) ≡ Some path
      by (same e f) h = sym (ap (λ (l : Line). copied (action_of l)) e) ∙ h
      by (directory copying e f g) h = absurd (let no : None ≡ Some path = sym (ap (λ (l : Line). copied (action_of l)) g) ∙ h in cc)

  contents_less : (line : Line) → changes_content (swapped t line) ≡ true → changes_content line ≡ true
  contents_less line = fewer changes_content line (λ h. or_four (is_creating line) _ _ _ (at (is_creating line) h))
    where
      at : (b : Bool) → (b || false || false || false) ≡ true → b ≡ true
      at b k = grind arith

      or_four : (a b c d : Bool) → a ≡ true → (a || b || c || d) ≡ true
      or_four a b c d k = grind arith

  pub swapped_repeatable : (lines : List Line) → IsRepeatable lines → IsRepeatable (map (swapped t) lines)
  swapped_repeatable lines repeatable i r reason = repeatable i r (by r reason)
    where
      by : (s : Reason) → HasReason (map (swapped t) lines) i s → HasReason lines i s
      by _ (append new at h) =
          let l = line_at lines i new at in
          append l.0 l.1 (appends_less l.0 (sym (ap appends l.2) ∙ h))
      by _ (source new other j path q at at' copies under named g) =
          let l = line_at lines i new at in
          let k = line_at lines j other at' in
          source l.0 k.0 j path q l.1 k.1 (copies_less k.0 path (sym (ap (λ (x : Line). copied (action_of x)) k.2) ∙ copies)) under named (governs_less l.0 q (sym (ap (λ (x : Line). governs x q) l.2) ∙ g))
      by _ (below new other j path at at' creates copies under differ) =
          let l = line_at lines i new at in
          let k = line_at lines j other at' in
          let own : path_in new.path ≡ path_in l.0.path = ap (λ (x : Line). path_in x.path) l.2 ∙ ap path_in (swapped_path l.0) in
          let others : path_in other.path ≡ path_in k.0.path = ap (λ (x : Line). path_in x.path) k.2 ∙ ap path_in (swapped_path k.0) in
          below l.0 k.0 j path l.1 k.1 (sym (swapped_creating l.0) ∙ sym (ap is_creating l.2) ∙ creates) (copies_less k.0 path (sym (ap (λ (x : Line). copied (action_of x)) k.2) ∙ copies))
          (sym (λ i. is_prefix (others i) (own i)) ∙ under) (λ e. differ (others ∙ e ∙ sym own))
      by _ (input new q at h is named g) =
          let l = line_at lines i new at in
          input l.0 q l.1 (contents_less l.0 (sym (ap changes_content l.2) ∙ h)) is named (governs_less l.0 q (sym (ap (λ (x : Line). governs x q) l.2) ∙ g))
      by _ (mask new other j q at at' before named reach clash) =
          let l = line_at lines i new at in
          let k = line_at lines j other at' in
          mask l.0 k.0 j q l.1 k.1 before named (reaches_less k.0 q (sym (ap (λ (x : Line). reaches x q) k.2) ∙ reach.0), reaches_less l.0 q (sym (ap (λ (x : Line). reaches x q) l.2) ∙ reach.1)) (both l.0 k.0 l.2 k.2 clash)
        where
          both : (a c : Line) → new ≡ swapped t a → other ≡ swapped t c → ((has_masked_mode other ≡ true) × (sets_base new ≡ true)) ⊎ ((sets_base other ≡ true) × (has_masked_mode new ≡ true))
              → ((has_masked_mode c ≡ true) × (sets_base a ≡ true)) ⊎ ((sets_base c ≡ true) × (has_masked_mode a ≡ true))
          both a c e f (inl h) = inl (masks_less c (sym (ap has_masked_mode f) ∙ h.0), bases_less a (sym (ap sets_base e) ∙ h.1))
          both a c e f (inr h) = inr (bases_less c (sym (ap sets_base f) ∙ h.0), masks_less a (sym (ap has_masked_mode e) ∙ h.1))
