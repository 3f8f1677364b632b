-- Laws of phases that take away and were cut short: what is still there is judged as before.
use Rattle.std.specs.Prelude.{◌≡◌, ℕ, ◌-◌, ◌+◌, ◌^◌, ◌<◌, Bool, true, false, cond, not, ◌&&◌, ◌==◌, List, length, take, drop, Option, Some, None, is_some, is_none, option_map}
use Rattle.std.proofs.Common.{refl, sym, ap, subst, ◌∙◌, inl, inr}
use Rattle.std.specs.List.{list_any, range_with_len}
use Rattle.std.proofs.Math.Seq.{drop-append_seam}
use Rattle.std.specs.Option.{option_map_or}
use Rattle.pv_lines.specs.declared.line.Line.{Line}
use Rattle.pv_path.specs.Paths.{Path, is_prefix}
use Rattle.pv_path.proofs.PathLaws.{is_prefix-refl, prefix_parts, is_prefix-take}
use Rattle.pv_steps.specs.declared.object.Object.{Object}
use Rattle.pv_steps.specs.declared.step.Step.{Step}
use Rattle.pv_steps.specs.declared.why.Why.{Why}
use Rattle.pv_steps.specs.Objects.{object_state, is_directory, modified}
use Rattle.pv_steps.specs.Refusal.{why_refused, first_refused, refusal, owner_at}
use Rattle.pv_steps.specs.Runs.{Ran, after_all}
use Rattle.pv_steps.specs.Same.{object_states, Same}
use Rattle.pv_steps.specs.Trees.{Files, Places, places, kind_of, IsTree}
use Rattle.pv_steps.proofs.RunLaws.{along_prefix, along_trees}
use Rattle.pv_steps.proofs.TreeLaws.{present_above}
use Rattle.pv_walk.specs.Edits.{Pruned}
use Rattle.pv_walk.specs.Removal.{loses_child}
use Rattle.pv_walk.proofs.WholeLaws.{goes_parts, goes_from, all_at-each, each-all_at}
use Rattle.pv_table.specs.declared.taking.Taking.{Taking}
use Rattle.pv_table.specs.declared.taking.Taking.TheVariants as taking
use Rattle.pv_table.specs.ActionTable.{taking_of}
use Rattle.pv_table.specs.Reaching.{names, path_in}
use Rattle.pv_table.specs.Removed.{covers, is_directory_at, is_gone, is_named, files_without, is_purged, owner_given, purges, purged, refused_place, removed}
use Rattle.pv_walk.specs.Whole.{all_at}
use Rattle.pv_remove.specs.Ended.{Recovers}
use Rattle.pv_path.proofs.Tests.{same_tests}
use Rattle.pv_table.proofs.QuietLaws.{kind_object_state, present_object_state}
use Rattle.pv_table.proofs.GoingLaws.{places-without}

-- ---- what a tree without some paths has

-- timestamps aside, where only timestamps change
pub object_states-without : (goes : Path → Bool) (change : Object → Object) → ((o : Object) → object_state (change o) ≡ object_state o) → (t : Files) (q : Path) → object_states (places (files_without goes change t)) q ≡ cond (goes q) None (object_states (places t) q)
object_states-without goes change keeps t q = ap (option_map object_state) (places-without goes change t q) ∙ by (goes q) (loses_child goes t q) (places t q)
  where
    by : (g l : Bool) (o : Option Object) → option_map object_state (cond g None (cond l (option_map change o) o)) ≡ cond g None (option_map object_state o)
    by true l o = refl
    by false true None = refl
    by false true (Some x) = ap Some (keeps x)
    by false false o = refl

-- ---- judging a path depends on what stands along it

owner-object_state : (o : Option Object) (d : ℕ) → option_map_or (λ x. x.node.uid) o d ≡ option_map_or (λ x. x.node.uid) (option_map object_state o) d
owner-object_state None d = refl
owner-object_state (Some o) d = refl

module _ (t u : Places) (path : Path) (same : (k : ℕ) → object_states u (take k path) ≡ object_states t (take k path)) where
  kind_at-same : (k : ℕ) → kind_of (u (take k path)) ≡ kind_of (t (take k path))
  kind_at-same k = kind_object_state (u (take k path)) ∙ ap kind_of (same k) ∙ sym (kind_object_state (t (take k path)))

  owner_at-same : (last k : ℕ) → owner_at u path last k ≡ owner_at t path last k
  owner_at-same last k =
      owner-object_state (u (take k path)) (cond (k == length path) last 0)
      ∙ ap (λ o. option_map_or (λ x. x.node.uid) o (cond (k == length path) last 0)) (same k)
      ∙ sym (owner-object_state (t (take k path)) (cond (k == length path) last 0))

  why_refused-same : (last k : ℕ) → why_refused u path last k ≡ why_refused t path last k
  why_refused-same last k = rw (kind_at-same k, owner_at-same last k, owner_at-same last (k - 1)) refl

  pub refusal-same : (last : ℕ) → refusal u path last ≡ refusal t path last
  refusal-same last = ap (λ (f : ℕ → Option Why). first_refused f (range_with_len 0 (length path + 1))) (λ i k. why_refused-same last k i)

-- ---- a tree from which some objects are gone

module _ (inside : Path → Bool) (t u : Files) (pruned : Pruned inside t u) where
  -- what is there is as it was
  pub still_same : (q : Path) → is_some (places u q) ≡ true → object_states (places u) q ≡ object_states (places t) q
  still_same q there = by (inside q) refl
    where
      by : (b : Bool) → inside q ≡ b → object_states (places u) q ≡ object_states (places t) q
      by true e = elim (pruned.within q e) [
        | inl gone ↦ absurd (let no : is_some (places u q) ≡ false = ap is_some gone in cc)
        | inr same ↦ same
      ]
      by false e = pruned.outside q e

  was_there : (q : Path) → is_some (places u q) ≡ true → is_some (places t q) ≡ true
  was_there q there = present_object_state (places t q) ∙ ap is_some (sym (still_same q there)) ∙ sym (present_object_state (places u q)) ∙ there

  module _ (tree : IsTree u) where
    prefix_there : (p q : Path) → is_prefix p q ≡ true → is_some (places u q) ≡ true → is_some (places u p) ≡ true
    prefix_there p q under there = let parts = prefix_parts p q under in present_above (places u) tree p parts.0 (subst (λ (r : Path). is_some (places u r) ≡ true) parts.1 there)

    -- and so is all that stands above it
    along_same : (q : Path) → is_some (places u q) ≡ true → (k : ℕ) → object_states (places u) (take k q) ≡ object_states (places t) (take k q)
    along_same q there k = still_same (take k q) (prefix_there (take k q) q (is_prefix-take k q) there)

    refused-same : (line : Line) (q : Path) → is_some (places u q) ≡ true → refused_place line (places u) q ≡ refused_place line (places t) q
    refused-same line q there = refusal-same (places t) (places u) q (along_same q there) (owner_given line)

    named-same : (line : Line) (q : Path) → is_some (places u q) ≡ true → is_named line (places u) q ≡ is_named line (places t) q
    named-same line q there = ap (λ (r : Option (ℕ × Why)). names line q && is_none r) (refused-same line q there)

    directory-same : (q : Path) → is_some (places u q) ≡ true → is_directory_at (places u) q ≡ is_directory_at (places t) q
    directory-same q there = ap (λ k. option_map_or is_directory k false) (kind_object_state (places u q) ∙ ap kind_of (still_same q there) ∙ sym (kind_object_state (places t q)))

    named_first-same : (line : Line) (q : Path) → is_some (places u q) ≡ true → (k : ℕ) → is_named line (places u) (take k q) ≡ is_named line (places t) (take k q)
    named_first-same line q there k = named-same line (take k q) (prefix_there (take k q) q (is_prefix-take k q) there)

    directory_first-same : (line : Line) (q : Path) → is_some (places u q) ≡ true → (k : ℕ) → (is_named line (places u) (take k q) && is_directory_at (places u) (take k q)) ≡ (is_named line (places t) (take k q) && is_directory_at (places t) (take k q))
    directory_first-same line q there k = rw (named_first-same line q there k, directory-same (take k q) (prefix_there (take k q) q (is_prefix-take k q) there)) refl

    pub covers-same : (line : Line) (q : Path) → is_some (places u q) ≡ true → covers line (places u) q ≡ covers line (places t) q
    covers-same line q there = by (taking_of line) refl
      where
        by : (v : Taking) → taking_of line ≡ v → covers line (places u) q ≡ covers line (places t) q
        by taking.Itself e = rw e (named-same line q there)
        by taking.Whole e = rw e (ap (λ (f : ℕ → Bool). list_any f (range_with_len 0 (length q + 1))) (λ i k. named_first-same line q there k i))
        by taking.Contents e = rw e (ap (λ (f : ℕ → Bool). list_any f (range_with_len 0 (length q))) (λ i k. directory_first-same line q there k i))
        by taking.Nothing e = rw e refl

    some_covers-same : (lines : List Line) (q : Path) → is_some (places u q) ≡ true → list_any (λ line. covers line (places u) q) lines ≡ list_any (λ line. covers line (places t) q) lines
    some_covers-same lines q there = ap (λ (f : Line → Bool). list_any f lines) (λ i line. covers-same line q there i)

    purges-same : (lines : List Line) (q : Path) → is_some (places u q) ≡ true → list_any (λ line. purges line (places u) q) lines ≡ list_any (λ line. purges line (places t) q) lines
    purges-same lines q there = ap (λ (f : Line → Bool). list_any f lines) (λ i line. one line i)
      where
        one : (line : Line) → purges line (places u) q ≡ purges line (places t) q
        one line = by (is_prefix (path_in line.path) q) refl
          where
            by : (b : Bool) → is_prefix (path_in line.path) q ≡ b
                → ((line.purge && b) && is_none (refused_place line (places u) (path_in line.path))) ≡ ((line.purge && b) && is_none (refused_place line (places t) (path_in line.path)))
            by true e = ap (λ (r : Option (ℕ × Why)). (line.purge && true) && is_none r) (refused-same line (path_in line.path) (prefix_there (path_in line.path) q e there))
            by false e = off line.purge (is_none (refused_place line (places u) (path_in line.path))) (is_none (refused_place line (places t) (path_in line.path)))
              where
                off : (b x y : Bool) → ((b && false) && x) ≡ ((b && false) && y)
                off true x y = refl
                off false x y = refl

-- what a complete run leaves from there is what it leaves from the start, where what is still there is judged alike
same_end : (goes_t goes_u : Path → Bool) (now later : ℕ) (t u : Files) → Pruned goes_t t u → ((q : Path) → is_some (places u q) ≡ true → goes_u q ≡ goes_t q) → ((q : Path) → goes_u q ≡ true → is_some (places u q) ≡ true)
    → Same (files_without goes_u (modified later) u) (files_without goes_t (modified now) t)
same_end goes_t goes_u now later t u pruned alike there q plain =
    object_states-without goes_u (modified later) (λ o. refl) u q ∙ by (is_some (places u q)) refl (goes_t q) refl ∙ sym (object_states-without goes_t (modified now) (λ o. refl) t q)
  where
    none : (o : Option Object) → is_some o ≡ false → option_map object_state o ≡ None
    none None e = refl
    none (Some x) e = cc

    not_gone : is_some (places u q) ≡ false → goes_u q ≡ false
    not_gone e = at (goes_u q) refl
      where
        at : (b : Bool) → goes_u q ≡ b → b ≡ false
        at true h = absurd (let yes = there q h in cc)
        at false h = refl

    by : (s : Bool) → is_some (places u q) ≡ s → (g : Bool) → goes_t q ≡ g → cond (goes_u q) None (object_states (places u) q) ≡ cond (goes_t q) None (object_states (places t) q)
    by true e g h = ap (λ b. cond b None (object_states (places u) q)) (alike q e) ∙ ap (λ o. cond (goes_t q) None o) (still_same goes_t t u pruned q e)
    by false e true h = ap (λ b. cond b None (object_states (places u) q)) (not_gone e) ∙ none (places u q) e ∙ sym (ap (λ b. cond b None (object_states (places t) q)) h)
    by false e false h = ap (λ b. cond b None (object_states (places u) q)) (not_gone e) ∙ pruned.outside q h ∙ sym (ap (λ b. cond b None (object_states (places t) q)) h)

-- what is still there goes as it would have gone
gone-same : (lines : List Line) (t u : Files) → Pruned (is_gone lines t) t u → IsTree u → (q : Path) → is_some (places u q) ≡ true → is_gone lines u q ≡ is_gone lines t q
gone-same lines t u pruned tree q there = same_tests (is_gone lines u q) (is_gone lines t q) forth back
  where
    forth : is_gone lines u q ≡ true → is_gone lines t q ≡ true
    forth h =
        let parts = goes_parts (λ r. list_any (λ line. covers line (places u) r) lines) u q h in
        goes_from (λ r. list_any (λ line. covers line (places t) r) lines) t q (was_there (is_gone lines t) t u pruned q there) parts.1
        (each-all_at (λ r. list_any (λ line. covers line (places t) r) lines) t q (λ r at under. by r at under (is_some (places u r)) refl (is_gone lines t r) refl parts.2))
      where
        by : (r : Path) → is_some (places t r) ≡ true → is_prefix q r ≡ true → (s : Bool) → is_some (places u r) ≡ s → (g : Bool) → is_gone lines t r ≡ g
            → all_at (λ p. list_any (λ line. covers line (places u) p) lines) u q ≡ true → list_any (λ line. covers line (places t) r) lines ≡ true
        by r at under true e g h all = sym (some_covers-same (is_gone lines t) t u pruned tree lines r e) ∙ all_at-each (λ p. list_any (λ line. covers line (places u) p) lines) u q all r e under
        by r at under false e true h all =
            let parts = goes_parts (λ p. list_any (λ line. covers line (places t) p) lines) t r h in
            all_at-each (λ p. list_any (λ line. covers line (places t) p) lines) t r parts.2 r at (is_prefix-refl r)
        by r at under false e false h all = absurd (
            let same : is_some (places t r) ≡ is_some (places u r) = present_object_state (places t r) ∙ ap is_some (sym (pruned.outside r h)) ∙ sym (present_object_state (places u r)) in cc)

    back : is_gone lines t q ≡ true → is_gone lines u q ≡ true
    back h =
        let parts = goes_parts (λ r. list_any (λ line. covers line (places t) r) lines) t q h in
        goes_from (λ r. list_any (λ line. covers line (places u) r) lines) u q there parts.1
        (each-all_at (λ r. list_any (λ line. covers line (places u) r) lines) u q (λ r at under.
        some_covers-same (is_gone lines t) t u pruned tree lines r at
        ∙ all_at-each (λ p. list_any (λ line. covers line (places t) p) lines) t q parts.2 r (was_there (is_gone lines t) t u pruned r at) under))

pub removal_recovers : (lines : List Line) (now later : ℕ) (t u : Files) → IsTree u → Pruned (is_gone lines t) t u → Same (removed lines later u) (removed lines now t)
removal_recovers lines now later t u tree pruned =
    same_end (is_gone lines t) (is_gone lines u) now later t u pruned (gone-same lines t u pruned tree)
    (λ q h. (goes_parts (λ r. list_any (λ line. covers line (places u) r) lines) u q h).0)

pub purge_recovers : (lines : List Line) (now later : ℕ) (t u : Files) → IsTree u → Pruned (is_purged lines t) t u → Same (purged lines later u) (purged lines now t)
purge_recovers lines now later t u tree pruned =
    same_end (is_purged lines t) (is_purged lines u) now later t u pruned
    (λ q there. rw (there, was_there (is_purged lines t) t u pruned q there, purges-same (is_purged lines t) t u pruned tree lines q there) refl)
    (λ q h. first (is_some (places u q)) (not (length q == 0)) (list_any (λ line. purges line (places u) q) lines) h)
  where
    first : (a b c : Bool) → ((a && b) && c) ≡ true → a ≡ true
    first true b c h = refl
    first false b c h = absurd (let wrong : false ≡ true = h in cc)

-- ---- runs that were cut short

pub run_recovers : (whole : ℕ → Files → Files) (goes : Path → Bool) → (Q : Step → Type 0) (now : ℕ) (t : Files) (h : List Step) (u : Files) (k : List Step) → now < 2 ^ 64 → IsTree t
    → ((later : ℕ) (v : Files) → IsTree v → Pruned goes t v → Same (whole later v) (whole now t)) → Ran (Pruned goes t) Q now t h u k → Recovers whole now t (drop (length h) k)
run_recovers whole goes Q now t h u k fits tree recovery run = subst (Recovers whole now t) (sym (ap (drop (length h)) run.recorded ∙ drop-append_seam h run.steps)) (λ n later.
    recovery later (after_all t (take n run.steps) now)
    (along_prefix IsTree t run.steps now n (along_trees (Pruned goes t) t run.steps now fits tree run.along))
    (along_prefix (Pruned goes t) t run.steps now n run.along))
