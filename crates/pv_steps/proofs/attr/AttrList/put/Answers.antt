use Rattle.std.proofs.lemmas.Result.{IfOk-from_err}
use Rattle.std.specs.Prelude.{◌≡◌, ℕ, ◌<◌, ◌≤◌, List, length, Option, Some, None, option_map, slice_get}
use Rattle.std.proofs.Common.{◌∙◌, refl, subst}
use Rattle.std.proofs.lemmas.Option.{slice_get_within}
use Rattle.pv_steps.specs.declared.attr.Attr.{Attr}
use Rattle.pv_steps.proofs.AttrPutting.{set_is, insert_is, attrs_as}
use Rattle.pv_steps.proofs.attr.AttrList.put.Goals as goal

pub returns-then-is_named_as-clause-ok : goal.returns-then-is_named_as-clause-ok
returns-then-is_named_as-clause-ok c =
    c.set.ensures ∙ set_is c.args.item c.self.inside.items c.as_slice.result.now c.as_slice-2.result.now c.args.self.now c.place_of-at.result c.self.invariant
    c.as_slice.ensures c.as_slice-2.ensures c.self.view_is c.place_of-at.ensures.place c.if-is_named_as.ensures.yes

pub invariant_of-self : goal.invariant_of-self
invariant_of-self c =
    attrs_as c.args.item c.self.inside.items c.args.self.now _ c.requires c.self.invariant c.self.view_is
    (c.set.ensures ∙ set_is c.args.item c.self.inside.items c.as_slice.result.now c.as_slice-2.result.now c.args.self.now c.place_of-at.result c.self.invariant
    c.as_slice.ensures c.as_slice-2.ensures c.self.view_is c.place_of-at.ensures.place c.if-is_named_as.ensures.yes)

pub returns-clause-ok : goal.returns-clause-ok
returns-clause-ok c =
    insert_is c.args.item c.self.inside.items c.as_slice.result.now c.as_slice-2.result.now c.args.self.now c.insert.new.self c.place_of-at.result
    c.self.invariant c.as_slice.ensures c.as_slice-2.ensures c.self.view_is c.place_of-at.ensures.place c.if-is_named_as.ensures.no
    c.in_ok-insert.ensures.ok

pub invariant_of-self-2 : goal.invariant_of-self-2
invariant_of-self-2 c =
    attrs_as c.args.item c.self.inside.items c.args.self.now c.insert.new.self c.requires c.self.invariant c.self.view_is
    (insert_is c.args.item c.self.inside.items c.as_slice.result.now c.as_slice-2.result.now c.args.self.now c.insert.new.self c.place_of-at.result
    c.self.invariant c.as_slice.ensures c.as_slice-2.ensures c.self.view_is c.place_of-at.ensures.place c.if-is_named_as.ensures.no
    c.in_ok-insert.ensures.ok)

pub returns-in_err-insert-clause-ok : goal.returns-in_err-insert-clause-ok
returns-in_err-insert-clause-ok c = IfOk-from_err c.from_residual.result _ c.from_residual.ensures.0

-- an index at which there is an attribute is within the list
within : (xs : List Attr) (at : ℕ) (name : List ℕ) → option_map (λ (x : Attr). x.name) (slice_get xs at) ≡ Some name → at < length xs
within xs at name named = by (slice_get xs at) refl named
  where
    by : (v : Option Attr) → slice_get xs at ≡ v → option_map (λ (x : Attr). x.name) v ≡ Some name → at < length xs
    by None e h = let wrong : None ≡ Some name = h in cc
    by (Some x) e h = slice_get_within xs at x e

pub set-requires : goal.set-requires
set-requires c = subst (λ (xs : List Attr). c.place_of-at.result < length xs) c.as_slice-2.ensures (within c.as_slice-2.result.now c.place_of-at.result c.args.item.name c.if-is_named_as.ensures.yes)

pub insert-requires : goal.insert-requires
insert-requires c = subst (λ (xs : List Attr). c.place_of-at.result ≤ length xs) c.as_slice.ensures c.place_of-at.ensures.within
