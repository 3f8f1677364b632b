-- Laws of a line that adjusts what is there, at each path that it names: carrying it out at one neither adds nor takes away
-- paths, so that the list made first stays right.
use Rattle.std.specs.Prelude.{◌≡◌, ℕ, ◌+◌, ◌≤◌, ◌<◌, ◌^◌, Bool, true, false, cond, not, ◌||◌, nat_le, List, [], ◌∷◌, ◌++◌, filter, length, take, get_or, Option, Some, None, is_some}
use Rattle.std.specs.FinMap as fin
use Rattle.std.specs.List.{list_all}
use Rattle.std.specs.Cmp.Lexicographic.{pointwise}
use Rattle.std.proofs.Common.{refl, sym, ap, subst, ◌∙◌, arith}
use Rattle.std.proofs.lemmas.Bool.Decides.{nat_tests}
use Rattle.std.proofs.lemmas.List.{take_more}
use Rattle.std.proofs.lemmas.Bool.{and_parts}
use Rattle.pv_glob.specs.declared.element.Element.{Element}
use Rattle.pv_glob.specs.Matching.{component_matches, matches, some_matches}
use Rattle.pv_lines.specs.declared.line.Line.{Line}
use Rattle.pv_lines.specs.declared.line.LinePath.{LinePath}
use Rattle.pv_lines.specs.declared.line.LinePath.TheVariants.{Literal, Glob}
use Rattle.pv_lines.specs.Lines.{IsLine, IsLinePath}
use Rattle.pv_path.specs.Paths.{Path, has_staging}
use Rattle.pv_path.proofs.PathLaws.{same_path-refl}
use Rattle.pv_steps.specs.Trees.{Files, places}
use Rattle.pv_walk.specs.Listing.{times}
use Rattle.pv_walk.proofs.CountLaws.{times-filter, times-keys, times-push, one-same}
use Rattle.pv_table.specs.declared.action.Action.{Action}
use Rattle.pv_table.specs.declared.action.Action.TheVariants.{Adjust}
use Rattle.pv_table.specs.declared.action.Adjustment.{Adjustment}
use Rattle.pv_table.specs.ActionTable.{action_of}
use Rattle.pv_table.specs.Effects.{carried_out, adjust_at, turn_after, turns}
use Rattle.pv_table.specs.Reaching.{names, names_in}
use Rattle.pv_table.specs.Turns.{Refused, refused_at}
use Rattle.pv_create.proofs.ReachedLaws.{is_some-touched, places-adjust_at, times-take}

-- ---- presence

adjust_keeps : (now : ℕ) (adjustment : Adjustment) (path : Path) (t : Files) (q : Path) → is_some (places (adjust_at now adjustment path t) q) ≡ is_some (places t q)
adjust_keeps now adjustment path t q = ap is_some (places-adjust_at now adjustment path t q) ∙ is_some-touched now adjustment path t q

-- a line that adjusts neither adds nor takes away paths
pub turn_keeps : (now : ℕ) (line : Line) (adjustment : Adjustment) → action_of line ≡ Adjust adjustment → (path : Path) (t : Files) (q : Path) → is_some (places (turn_after now line path t) q) ≡ is_some (places t q)
turn_keeps now line adjustment action path t q = by (refused_at line path (places t)) refl
  where
    by : (r : Option Refused) → refused_at line path (places t) ≡ r → is_some (places (turn_after now line path t) q) ≡ is_some (places t q)
    by (Some place) e = rw e refl
    by None e = rw e (ap (λ (d : Action). is_some (places (carried_out now d path t) q)) action ∙ adjust_keeps now adjustment path t q)

-- the paths of its turns are those present that it names
pub named_turns : (line : Line) (adjustment : Adjustment) → action_of line ≡ Adjust adjustment → (t : Files) → filter (names line) (fin.keys t) ≡ turns line t
named_turns line adjustment action t = sym (rw action refl)

-- ---- lengths

as_long : (xs : List (List Element)) (ys : Path) → pointwise component_matches xs ys ≡ true → length xs ≡ length ys
as_long [] [] h = refl
as_long [] (y ∷ ys) h = let wrong : false ≡ true = h in cc
as_long (x ∷ xs) [] h = let wrong : false ≡ true = h in cc
as_long (x ∷ xs) (y ∷ ys) h = let rest = as_long xs ys (and_parts (component_matches x y) (pointwise component_matches xs ys) h).1 in omega (arith, rest)

matched_short : (plains : List (List (List Element))) (q : Path) → list_all (λ plain. nat_le (length plain) 4294967295) plains ≡ true → some_matches plains q ≡ true → length q < 2 ^ 32
matched_short [] q short h = let wrong : false ≡ true = h in cc
matched_short (plain ∷ plains) q short h = by (matches plain q) refl h (matched_short plains q (and_parts (nat_le (length plain) 4294967295) (list_all (λ plain. nat_le (length plain) 4294967295) plains) short).1)
  where
    by : (s : Bool) → matches plain q ≡ s → (s || some_matches plains q) ≡ true → (some_matches plains q ≡ true → length q < 2 ^ 32) → length q < 2 ^ 32
    by true e f rest =
        let long = as_long plain q (and_parts (not (has_staging q)) (pointwise component_matches plain q) e).1 in
        let few : nat_le (length plain) 4294967295 ≡ true = (and_parts (nat_le (length plain) 4294967295) (list_all (λ plain. nat_le (length plain) 4294967295) plains) short).0 in
        let small : length plain ≤ 4294967295 = grind (arith, nat_tests) in
        omega (arith, long, small)
    by false e f rest = rest f

-- a path that a line names has fewer than 2^32 names
pub named_short : (line : Line) → IsLine line → (q : Path) → names line q ≡ true → length q < 2 ^ 32
named_short line is q h = by line.path refl h
  where
    by : (path : LinePath) → line.path ≡ path → names_in path q ≡ true → length q < 2 ^ 32
    by (Literal own) e h = let fits = (subst (IsLinePath is.row) e is.fits.path).1 in subst (λ (p : Path). length p < 2 ^ 32) (one-same own q h) fits.few
    by (Glob pattern) e h = matched_short pattern q (subst (IsLinePath is.row) e is.fits.path).1 h

-- ---- one of the list

module _ (line : Line) (t : Files) (items : List Path) (are : items ≡ filter (names line) (fin.keys t)) (i : ℕ) (at : Path) (lt : i < length items) (is : at ≡ get_or items i at) where
  counted : 1 ≤ cond (names line at) (cond (is_some (places t at)) 1 0) 0
  counted =
      let more : take (i + 1) items ≡ take i items ++ at ∷ [] = take_more items i at lt ∙ ap (λ q. take i items ++ q ∷ []) (sym is) in
      omega (
        arith,
        ap (times at) more,
        times-push at (take i items) at,
        ap {B = ℕ} (λ b. cond b 1 0) (same_path-refl at),
        times-take (i + 1) items at,
        ap (times at) are,
        times-filter (names line) at (fin.keys t),
        ap {B = ℕ} (λ n. cond (names line at) n 0) (times-keys t at),
      )

  pub stands_named : (names line at ≡ true) × (is_some (places t at) ≡ true)
  stands_named = by (names line at) (is_some (places t at)) refl refl
    where
      by : (a b : Bool) → names line at ≡ a → is_some (places t at) ≡ b → (names line at ≡ true) × (is_some (places t at) ≡ true)
      by true true e f = (e, f)
      by true false e f = absurd (let none : ◌≡◌ {A = ℕ} (cond (names line at) (cond (is_some (places t at)) 1 0) 0) 0 = (λ j. cond (e j) (cond (f j) 1 0) 0) in omega (arith, counted, none))
      by false b e f = absurd (let none : ◌≡◌ {A = ℕ} (cond (names line at) (cond (is_some (places t at)) 1 0) 0) 0 = (λ j. cond (e j) (cond (f j) 1 0) 0) in omega (arith, counted, none))
