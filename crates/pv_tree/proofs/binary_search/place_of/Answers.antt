use Rattle.std.proofs.Common.{◌≡◌, ◌+◌, ◌-◌, ◌/◌, Some, slice_get, arith, ap, sym, ◌∙◌}
use Rattle.std.specs.declared.cmp.Ordering.TheVariants.{Less, Equal, Greater}
use Rattle.pv_tree.proofs.BinarySearch.{stands, halved, found, missed}
use Rattle.pv_tree.proofs.binary_search.place_of.Goals as goal

pub loop-low-preserved-in-Less : goal.loop-low-preserved-in-Less
loop-low-preserved-in-Less g c =
    let i = c.loop-low.low + (c.loop-low.high - c.loop-low.low) / 2 in
    let at : Some Less ≡ slice_get (g.P.Probe.orders c.args.probe.now) i = ap Some (sym c.in-Less.is) ∙ c.compare.ensures.order ∙ ap (λ v. slice_get v i) c.loop-low.invariant.orders in
    record {
      orders = c.compare.ensures.orders ∙ c.loop-low.invariant.orders;
      top = c.loop-low.invariant.top;
      within = λ h. (omega (arith, stands _ h i Less at), (c.loop-low.invariant.within h).1);
      enough = λ d e. halved d _ _ _ _ _ (c.loop-low.invariant.enough d e) (omega arith) (omega arith) c.compare.ensures.asked (omega (arith, c.compare.ensures.asked));
    }

pub loop-low-preserved : goal.loop-low-preserved
loop-low-preserved g c =
    let i = c.loop-low.low + (c.loop-low.high - c.loop-low.low) / 2 in
    let at : Some Greater ≡ slice_get (g.P.Probe.orders c.args.probe.now) i = ap Some (sym c.in-Greater.is) ∙ c.compare.ensures.order ∙ ap (λ v. slice_get v i) c.loop-low.invariant.orders in
    record {
      orders = c.compare.ensures.orders ∙ c.loop-low.invariant.orders;
      top = omega (arith, c.loop-low.invariant.top);
      within = λ h. ((c.loop-low.invariant.within h).0, stands _ h i Greater at);
      enough = λ d e. halved d _ _ _ _ _ (c.loop-low.invariant.enough d e) (omega arith) (omega arith) c.compare.ensures.asked (omega (arith, c.compare.ensures.asked));
    }

pub returns-in-Equal-clause-place : goal.returns-in-Equal-clause-place
returns-in-Equal-clause-place g c =
    let i = c.loop-low.low + (c.loop-low.high - c.loop-low.low) / 2 in
    let at : Some Equal ≡ slice_get (g.P.Probe.orders c.args.probe.now) i = ap Some (sym c.in-Equal.is) ∙ c.compare.ensures.order ∙ ap (λ v. slice_get v i) c.loop-low.invariant.orders in
    found _ c.requires.rising i at

pub returns-clause-place : goal.returns-clause-place
returns-clause-place g c =
    let h = c.requires.rising in
    let w = c.loop-low.invariant.within h in
    missed _ h c.loop-low.low c.loop-low.high w.0 w.1 c.loop-low-test.false
