use Rattle.std.proofs.Common.{◌≡◌, refl, arith}
use Rattle.pv_steps.proofs.ActingLaws.{Moves, acted_within, acted_passed}
use Rattle.pv_walk.specs.SettingMetadata.{with_owner_of, with_mode_of, with_attrs_of, with_letters_of}
use Rattle.pv_walk.specs.Changing.{HasOwner, HasMode, HasExtended, with_access_of, with_extended_of}
use Rattle.pv_walk.proofs.ChangingLaws.{can_after, attrs_sets_metadata, letters_sets_metadata, four_changed, with_metadata_on, kept_as_seen, attrs_still, letters_still, sets_metadata_owner, owner_worn, sets_metadata_mode, mode_worn, sets_metadata_extended, extended_worn, sets_metadata_attrs, attrs_worn, sets_metadata_letters, letters_worn}
use Rattle.pv_walk.proofs.setting_metadata.set_metadata.Goals as goal

pub give_access-requires : goal.give_access-requires
give_access-requires g c =
    let t = g.T.Tree.state c.args.tree.now in
    record {
      can = c.requires;
      owner = kept_as_seen c.args.path.now c.args.new.now t c.requires (with_owner_of c.args.new.now) (HasOwner c.args.new.now) (sets_metadata_owner c.args.new.now) (owner_worn c.args.new.now) c.node_of.result.now c.node_of.ensures.node c.kept_of-kept.result.owner c.kept_of-kept.ensures.owner;
      mode = kept_as_seen c.args.path.now c.args.new.now t c.requires (with_mode_of c.args.new.now) (HasMode c.args.new.now) (sets_metadata_mode c.requires.kind c.args.new.now c.requires.metadata) (mode_worn c.requires.kind c.args.new.now c.requires.metadata) c.node_of.result.now c.node_of.ensures.node c.kept_of-kept.result.mode c.kept_of-kept.ensures.mode;
      extended = kept_as_seen c.args.path.now c.args.new.now t c.requires (with_extended_of c.args.new.now) (HasExtended c.args.new.now) (sets_metadata_extended c.args.new.now) (extended_worn c.args.new.now) c.node_of.result.now c.node_of.ensures.node c.kept_of-kept.result.extended c.kept_of-kept.ensures.extended;
    }

pub give_attrs-requires : goal.give_attrs-requires
give_attrs-requires g c =
    let t = g.T.Tree.state c.args.tree.now in
    let u = g.T.Tree.state c.give_access.new.tree in
    record {
      can = can_after c.args.path.now c.args.new.now (with_access_of c.args.new.now) c.args.now t u (λ o. refl) c.requires c.in_ok-give_access.ensures.ok;
      kept = attrs_still c.args.path.now c.args.new.now c.args.now t u c.in_ok-give_access.ensures.ok c.kept_of-kept.result.attrs
          (kept_as_seen c.args.path.now c.args.new.now t c.requires (with_attrs_of c.args.new.now) (λ n. n.attrs ≡ c.args.new.now.attrs) (sets_metadata_attrs c.args.new.now) (attrs_worn c.args.new.now) c.node_of.result.now c.node_of.ensures.node c.kept_of-kept.result.attrs c.kept_of-kept.ensures.attrs);
    }

pub give_letters-requires : goal.give_letters-requires
give_letters-requires g c =
    let t = g.T.Tree.state c.args.tree.now in
    let u = g.T.Tree.state c.give_access.new.tree in
    let v = g.T.Tree.state c.give_attrs.new.tree in
    record {
      can = can_after c.args.path.now c.args.new.now (with_attrs_of c.args.new.now) c.args.now u v (λ o. refl) (can_after c.args.path.now c.args.new.now (with_access_of c.args.new.now) c.args.now t u (λ o. refl) c.requires c.in_ok-give_access.ensures.ok) c.in_ok-give_attrs.ensures.ok;
      kept = letters_still c.args.path.now c.args.new.now c.args.now t u c.in_ok-give_access.ensures.ok c.kept_of-kept.result.letters v c.in_ok-give_attrs.ensures.ok
          (kept_as_seen c.args.path.now c.args.new.now t c.requires (with_letters_of c.args.new.now) (λ n. n.letters ≡ c.args.new.now.letters) (sets_metadata_letters c.args.new.now) (letters_worn c.args.new.now) c.node_of.result.now c.node_of.ensures.node c.kept_of-kept.result.letters c.kept_of-kept.ensures.letters);
    }

pub returns-in_err-give_attrs-clause-acted : goal.returns-in_err-give_attrs-clause-acted
returns-in_err-give_attrs-clause-acted g c =
    let moves : Moves g.T.Tree = record { stays = g.met.T.Tree.reaches_self; goes_on = g.met.T.Tree.reaches_on; never_falls = g.met.T.Tree.never_falls } in
    acted_passed g.T.Tree c.give_attrs.result c.from_residual-in_err-give_attrs.result c.in_err-give_attrs.was c.from_residual-in_err-give_attrs.ensures.1
    (acted_within g.T.Tree 4 5 (omega arith)
    (attrs_sets_metadata g.T.Tree moves c.args.path.now c.args.new.now c.args.now c.args.tree.now c.give_access.new.tree c.give_attrs.new.tree c.in_ok-give_access.ensures.acted c.in_ok-give_access.ensures.ok c.give_attrs.ensures.acted))

pub returns-clause-acted : goal.returns-clause-acted
returns-clause-acted g c =
    let moves : Moves g.T.Tree = record { stays = g.met.T.Tree.reaches_self; goes_on = g.met.T.Tree.reaches_on; never_falls = g.met.T.Tree.never_falls } in
    letters_sets_metadata g.T.Tree moves c.args.path.now c.args.new.now c.args.now c.args.tree.now c.give_attrs.new.tree c.give_letters.new.tree
    (attrs_sets_metadata g.T.Tree moves c.args.path.now c.args.new.now c.args.now c.args.tree.now c.give_access.new.tree c.give_attrs.new.tree c.in_ok-give_access.ensures.acted c.in_ok-give_access.ensures.ok c.in_ok-give_attrs.ensures.acted)
    (four_changed c.args.path.now c.args.new.now c.args.now (g.T.Tree.state c.args.tree.now) (g.T.Tree.state c.give_access.new.tree) (g.T.Tree.state c.give_attrs.new.tree) c.in_ok-give_access.ensures.ok c.in_ok-give_attrs.ensures.ok)
    c.give_letters.ensures.acted

pub returns-clause-ok : goal.returns-clause-ok
returns-clause-ok g c =
    with_metadata_on c.args.path.now c.args.new.now c.args.now (g.T.Tree.state c.args.tree.now)
    c.give_letters.result (g.T.Tree.state c.give_access.new.tree) (g.T.Tree.state c.give_attrs.new.tree) (g.T.Tree.state c.give_letters.new.tree)
    c.in_ok-give_access.ensures.ok c.in_ok-give_attrs.ensures.ok c.give_letters.ensures.ok
