-- Laws of the three steps that put /etc: it is made under its staging name, gets its mode, and is renamed into place.
use Rattle.std.specs.Prelude.{◌≡◌, ◌≢◌, ℕ, [], Some, option_map, is_some, Result, Ok, Err, OnOk}
use Rattle.std.proofs.Common.{refl, sym, ap, ◌∙◌, arith, lit≤}
use Rattle.pv_path.specs.Paths.{is_prefix, staging_of}
use Rattle.pv_path.proofs.PathLaws.{not_prefix_not_same}
use Rattle.pv_steps.specs.declared.node.Kind.TheVariants.{Directory, Link}
use Rattle.pv_steps.specs.declared.object.Object.{Object}
use Rattle.pv_steps.specs.declared.step.Step.TheVariants.{MakeDir, SetMode}
use Rattle.pv_steps.specs.declared.tree.Tree.{Ghosts}
use Rattle.pv_steps.specs.declared.tree.TreeFault.{TreeFault}
use Rattle.pv_steps.specs.Objects.{object_state, with_mode}
use Rattle.pv_steps.specs.Steps.{after, made, on_at, Can}
use Rattle.pv_steps.specs.Trees.{Files, Places, places, kind_of, IsAbsentIn, IsKind}
use Rattle.pv_steps.specs.Same.{object_states, Differ}
use Rattle.pv_steps.specs.Acting.{Acted, Tried}
use Rattle.pv_steps.proofs.ActingLaws.{Asks, Moves, acted_then, acted_tried, well}
use Rattle.pv_steps.proofs.StepLaws.{at_after}
use Rattle.pv_walk.specs.Edits.{SameOutside}
use Rattle.pv_walk.proofs.EditLaws.{object_states-made, object_states-put_else, made-here, on_at-else, on_at-here, on_at-made}
use Rattle.pv_walk.specs.Making.{held_object}
use Rattle.pv_walk.specs.Preparing.{parent_file}
use Rattle.pv_walk.specs.declared.new_file.NewKind.TheVariants as new
use Rattle.pv_walk.specs.Staging.{GivesNew, IsNewFile, new_object}
use Rattle.pv_walk.proofs.StageLaws.{make_asks, make_holds, staged_room}
use Rattle.pv_layers.specs.Places.{etc}

pub parent_new : IsNewFile parent_file
parent_new = record { mode = lit≤ tt; owner = (lit≤ tt, lit≤ tt); target = tt }

pub etc_some : etc ≢ []
etc_some e = cc

pub stage_some : staging_of etc ≢ []
stage_some e = cc

-- ---- the mode, after the directory is made under its staging name

module _ (now : ℕ) (t u : Files) (is : places u ≡ made now (staging_of etc) (held_object new.Directory now) (places t)) where
  there : places u (staging_of etc) ≡ Some (held_object new.Directory now)
  there = ap (λ (p : Places). p (staging_of etc)) is ∙ made-here now (staging_of etc) (places t) stage_some (held_object new.Directory now)

  pub can_mode : Can (places u) (SetMode (staging_of etc) 0o755)
  can_mode = ((ap is_some there, λ e. (let no : Some Directory ≡ Some Link = sym (ap kind_of there) ∙ e in cc)), lit≤ tt)

  mode_busy : Differ u (after u (SetMode (staging_of etc) 0o755) now)
  mode_busy = (
    staging_of etc,
    λ e.
        (let both : Some (object_state (held_object new.Directory now)) ≡ Some (object_state (with_mode 0o755 now (held_object new.Directory now))) =
        sym (ap (option_map object_state) there) ∙ e ∙ ap (λ (p : Places). object_states p (staging_of etc)) (at_after u (SetMode (staging_of etc) 0o755) now)
        ∙ ap (option_map object_state) (on_at-here (staging_of etc) (with_mode 0o755 now) (places u) ∙ ap (option_map (with_mode 0o755 now)) there) in
        let same : object_state (held_object new.Directory now) ≡ object_state (with_mode 0o755 now (held_object new.Directory now)) = cc in
        let others : ◌≡◌ {A = ℕ} 0 5 = ap (λ (o : Object). o.node.acl.access.other) same in
        omega (arith, others)),
  )

  outside_made : SameOutside (is_prefix (staging_of etc)) t u
  outside_made = λ q e.
      ap (λ (p : Places). object_states p q) is ∙ object_states-made now (staging_of etc) (held_object new.Directory now) (places t) q
      ∙ object_states-put_else (staging_of etc) q (Some (held_object new.Directory now)) (places t) (not_prefix_not_same (staging_of etc) q e)

  pub mode_asks : Asks (SameOutside (is_prefix (staging_of etc)) t) (GivesNew (staging_of etc) parent_file) u (SetMode (staging_of etc) 0o755) now
  mode_asks = record {
    start = outside_made;
    can = can_mode;
    busy = mode_busy;
    there = λ v done q e.
        ap (λ (p : Places). object_states p q) (ap places done ∙ at_after u (SetMode (staging_of etc) 0o755) now)
        ∙ ap (option_map object_state) (on_at-else (staging_of etc) q (with_mode 0o755 now) (places u) (not_prefix_not_same (staging_of etc) q e))
        ∙ outside_made q e;
    gives = (refl, refl);
  }

  pub mode_holds : (r : Result (Unit {0}) TreeFault) (v : Files) → OnOk r (v ≡ after u (SetMode (staging_of etc) 0o755) now) → OnOk r (places v ≡ made now (staging_of etc) (new_object parent_file now) (places t))
  mode_holds (Err e) v done = tt
  mode_holds (Ok x) v done =
      ap places done ∙ at_after u (SetMode (staging_of etc) 0o755) now ∙ ap (on_at (staging_of etc) (with_mode 0o755 now)) is
      ∙ (λ j q. on_at-made now (staging_of etc) (places t) stage_some (with_mode 0o755 now) (held_object new.Directory now) q j)

-- ---- both steps

module _ {S : Type 0} (tree : Ghosts S) (now : ℕ) (a b : S) (root : IsKind Directory (tree.state a) []) (free : IsAbsentIn (places (tree.state a)) (staging_of etc))
    (first : Tried tree (MakeDir (staging_of etc)) now a b well) where
  pub directory_held : places (tree.state b) ≡ made now (staging_of etc) (held_object new.Directory now) (places (tree.state a))
  directory_held = make_holds (staging_of etc) stage_some now (tree.state a) (staged_room (places (tree.state a)) etc root free) parent_file parent_new (tree.state b) first.state refl

  pub directory_staged : Moves tree → (c : S) (r : Result (Unit {0}) TreeFault) → Tried tree (SetMode (staging_of etc) 0o755) now b c r
      → Acted tree (SameOutside (is_prefix (staging_of etc)) (tree.state a)) (GivesNew (staging_of etc) parent_file) 2 now a c r
  directory_staged moves c r last =
      acted_then tree moves (SameOutside (is_prefix (staging_of etc)) (tree.state a)) (GivesNew (staging_of etc) parent_file)
      (acted_tried tree (SameOutside (is_prefix (staging_of etc)) (tree.state a)) (GivesNew (staging_of etc) parent_file) (MakeDir (staging_of etc)) now a b well first
      (make_asks (staging_of etc) stage_some now (tree.state a) (staged_room (places (tree.state a)) etc root free) parent_file parent_new))
      (acted_tried tree (SameOutside (is_prefix (staging_of etc)) (tree.state a)) (GivesNew (staging_of etc) parent_file) (SetMode (staging_of etc) 0o755) now b c r last
      (mode_asks now (tree.state a) (tree.state b) directory_held))
