use Rattle.std.specs.Prelude.{◌≡◌, ◌<◌, ◌++◌, ◌∷◌, [], List, find, length, map, Some, None}
use Rattle.std.proofs.Common.{sym, ap, subst, ◌∙◌, append_assoc}
use Rattle.std.specs.Option.{option_copied}
use Rattle.pv_path.specs.Paths.{Path}
use Rattle.pv_explain.specs.declared.region.Copied.{Copied}
use Rattle.pv_explain.specs.Following.{copies_of, is_open}
use Rattle.pv_explain.proofs.RegionLaws.{fewer_left, left_out, none_found}
use Rattle.pv_explain.proofs.region.closed_region.Goals as goal

pub loop-open-smaller : goal.loop-open-smaller
loop-open-smaller c =
    let region = c.loop-open.region in
    let copies : List Copied = c.in_ok-copies.copies.items in
    let copy : Copied = c.in-Some.open.now in
    let tops : List Path = region.tops.items in
    let to : Path = c.in_ok-copy.field-0 in
    let from : Path = c.in_ok-copy-2.field-0 in
    let found : find (is_open region) copies ≡ Some copy =
    sym (ap (find (is_open region)) c.deref-in-loop-open.ensures.value) ∙ sym c.first_open.ensures ∙ ap option_copied c.in-Some.is
    in
    let items : c.push-in-Some.new.self.items ≡ tops ++ copy.to ∷ copy.from ∷ [] =
    c.in_ok-push-2.ensures.items
    ∙ ap (λ (ps : List Path). ps ++ from ∷ []) c.in_ok-push.ensures.items
    ∙ append_assoc tops (to ∷ []) (from ∷ [])
    ∙ (λ j. tops ++ c.in_ok-copy.ensures j ∷ c.in_ok-copy-2.ensures j ∷ [])
    in
    subst (λ (ps : List Path). length (left_out ps copies) < length (left_out tops copies)) (sym items) (fewer_left region copies copy found)

pub returns : goal.returns
returns c =
    let region = c.loop-open.region in
    let lines = c.args.table.now in
    let same : c.in_ok-copies.copies.items ≡ copies_of lines = c.in_ok-copies.ensures in
    let none : find (is_open region) (copies_of lines) ≡ None =
    sym (ap (find (is_open region)) (c.deref-in-loop-open.ensures.value ∙ same)) ∙ sym c.first_open.ensures ∙ ap option_copied c.in_default.is
    in
    record {
      ends = c.loop-open.invariant ∙ ap (λ (xs : List Copied). c.args.path.now ∷ map (λ (x : Copied). x.from) xs) same;
      closed = none_found (is_open region) (copies_of lines) none;
    }
