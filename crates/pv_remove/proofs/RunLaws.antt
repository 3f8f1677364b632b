-- Laws of a phase that takes away as a whole.
use Rattle.std.specs.Prelude.{◌≡◌, ℕ, ◌^◌, ◌<◌, Bool, true, false, not, ◌&&◌, ◌==◌, List, length, drop, Option, Some, None, is_none, is_some}
use Rattle.std.proofs.Common.{refl, sym, ap, ◌∙◌}
use Rattle.std.specs.List.{list_any}
use Rattle.std.proofs.Math.Bool.{and-false, and-true}
use Rattle.pv_lines.specs.declared.line.Line.{Line}
use Rattle.pv_path.specs.Paths.{Path, is_prefix}
use Rattle.pv_path.proofs.PathLaws.{is_prefix-refl, is_prefix-trans}
use Rattle.pv_steps.specs.declared.step.Step.{Step}
use Rattle.pv_steps.specs.declared.why.Why.{Why}
use Rattle.pv_steps.specs.Trees.{Files, Places, places, IsTree}
use Rattle.pv_steps.specs.Runs.{Ran}
use Rattle.pv_walk.specs.Edits.{Pruned}
use Rattle.pv_walk.specs.Removal.{is_one_of}
use Rattle.pv_walk.specs.Whole.{goes_whole, all_at}
use Rattle.pv_walk.proofs.WholeLaws.{goes_whole-same, all_at-each, each-all_at}
use Rattle.pv_table.specs.Reaching.{path_in}
use Rattle.pv_table.specs.Removed.{covers, is_gone, is_purged, purged, purges, refused_place, removed}
use Rattle.pv_remove.specs.Ended.{Recovers}
use Rattle.pv_remove.proofs.StopLaws.{purge_recovers, removal_recovers, run_recovers}
use Rattle.pv_path.proofs.Tests.{same_tests}
use Rattle.pv_table.proofs.GoingLaws.{any_weaken, goes_again}

-- paths that go whole by some test go whole with each other
pub goes_together : (keys : List Path) (test : Path → Bool) (t : Files) → ((q : Path) → is_one_of keys q ≡ goes_whole test t q) → (q : Path) → is_one_of keys q ≡ goes_whole (is_one_of keys) t q
goes_together keys test t members q = members q ∙ sym (goes_again test t q) ∙ ap (λ (f : Path → Bool). goes_whole f t q) (λ i r. sym (members r) i)

-- the covered paths that go whole are those that are gone
pub covered_gone : (lines : List Line) (t : Files) (covered : List Path) → ((q : Path) → is_one_of covered q ≡ (is_some (places t q) && list_any (λ line. covers line (places t) q) lines))
    → (q : Path) → goes_whole (is_one_of covered) t q ≡ is_gone lines t q
covered_gone lines t covered are q = goes_whole-same (is_one_of covered) (λ r. list_any (λ line. covers line (places t) r) lines) t (λ r there. are r ∙ ap (λ b. b && list_any (λ line. covers line (places t) r) lines) there) q

-- crash safety of the remove phase
pub removal_recovered : (lines : List Line) (Q : Step → Type 0) (now : ℕ) (t : Files) (h : List Step) (u : Files) (k : List Step) → now < 2 ^ 64 → IsTree t
    → Ran (Pruned (is_gone lines t) t) Q now t h u k → Recovers (removed lines) now t (drop (length h) k)
removal_recovered lines Q now t h u k fits tree run = run_recovers (removed lines) (is_gone lines t) Q now t h u k fits tree (λ later v there pruned. removal_recovers lines now later t v there pruned) run

-- ---- purging

purges-below : (line : Line) (t : Places) (q r : Path) → is_prefix q r ≡ true → purges line t q ≡ true → purges line t r ≡ true
purges-below line t q r under h = by line.purge (is_prefix (path_in line.path) q) refl (is_none (refused_place line t (path_in line.path))) h
  where
    by : (a b : Bool) → is_prefix (path_in line.path) q ≡ b → (c : Bool) → ((a && b) && c) ≡ true → ((a && is_prefix (path_in line.path) r) && c) ≡ true
    by true true e c h = ap (λ b. b && c) (is_prefix-trans (path_in line.path) q r e under) ∙ h
    by true false e c h = absurd (let wrong : false ≡ true = h in cc)
    by false b e c h = absurd (let wrong : false ≡ true = h in cc)

-- what a line that is not refused purges
pub purges_is : (line : Line) (t : Places) (path q : Path) → line.purge ≡ true → path ≡ path_in line.path → refused_place line t path ≡ None → is_prefix path q ≡ purges line t q
purges_is line t path q purge is unrefused = sym (
    ap (λ b. (b && is_prefix (path_in line.path) q) && is_none (refused_place line t (path_in line.path))) purge
    ∙ ap (λ (p : Path). is_prefix p q && is_none (refused_place line t p)) (sym is)
    ∙ ap (λ (r : Option (ℕ × Why)). is_prefix path q && is_none r) unrefused
    ∙ and-true (is_prefix path q))

-- a line that is refused purges nothing
pub purges_none : (line : Line) (t : Places) (path q : Path) (why : Option (ℕ × Why)) → is_some why ≡ true → path ≡ path_in line.path → why ≡ refused_place line t path → purges line t q ≡ false
purges_none line t path q why some is refused =
    ap (λ (p : Path). (line.purge && is_prefix p q) && is_none (refused_place line t p)) (sym is)
    ∙ ap (λ (r : Option (ℕ × Why)). (line.purge && is_prefix path q) && is_none r) (sym refused)
    ∙ by why some
  where
    by : (r : Option (ℕ × Why)) → is_some r ≡ true → ((line.purge && is_prefix path q) && is_none r) ≡ false
    by (Some r) h = and-false (line.purge && is_prefix path q)
    by None h = cc

-- what is purged goes whole
pub purges_whole : (lines : List Line) (t : Files) (q : Path) → goes_whole (λ r. list_any (λ line. purges line (places t) r) lines) t q ≡ is_purged lines t q
purges_whole lines t q = by (is_some (places t q)) refl
  where
    by : (b : Bool) → is_some (places t q) ≡ b
        → ((b && not (length q == 0)) && all_at (λ r. list_any (λ line. purges line (places t) r) lines) t q) ≡ ((b && not (length q == 0)) && list_any (λ line. purges line (places t) q) lines)
    by true there = ap (λ c. (true && not (length q == 0)) && c) (same_tests _ _
        (λ h. all_at-each (λ r. list_any (λ line. purges line (places t) r) lines) t q h q there (is_prefix-refl q))
        (λ h. each-all_at (λ r. list_any (λ line. purges line (places t) r) lines) t q (λ r at under. any_weaken (λ line. purges line (places t) q) (λ line. purges line (places t) r) (λ line e. purges-below line (places t) q r under e) lines h)))
    by false there = refl

pub purged_whole : (lines : List Line) (t : Files) (listed : List Path) → ((q : Path) → is_one_of listed q ≡ (is_some (places t q) && list_any (λ line. purges line (places t) q) lines))
    → (q : Path) → goes_whole (is_one_of listed) t q ≡ is_purged lines t q
purged_whole lines t listed are q =
    goes_whole-same (is_one_of listed) (λ r. list_any (λ line. purges line (places t) r) lines) t (λ r there. are r ∙ ap (λ b. b && list_any (λ line. purges line (places t) r) lines) there) q
    ∙ purges_whole lines t q

pub purged_together : (keys : List Path) (lines : List Line) (t : Files) → ((q : Path) → is_one_of keys q ≡ is_purged lines t q) → (q : Path) → is_one_of keys q ≡ goes_whole (is_one_of keys) t q
purged_together keys lines t members = goes_together keys (λ r. list_any (λ line. purges line (places t) r) lines) t (λ q. members q ∙ sym (purges_whole lines t q))

-- crash safety of purging
pub purge_recovered : (lines : List Line) (Q : Step → Type 0) (now : ℕ) (t : Files) (h : List Step) (u : Files) (k : List Step) → now < 2 ^ 64 → IsTree t
    → Ran (Pruned (is_purged lines t) t) Q now t h u k → Recovers (purged lines) now t (drop (length h) k)
purge_recovered lines Q now t h u k fits tree run = run_recovers (purged lines) (is_purged lines t) Q now t h u k fits tree (λ later v there pruned. purge_recovers lines now later t v there pruned) run
