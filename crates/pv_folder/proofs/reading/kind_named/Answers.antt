use Rattle.std.proofs.Common.{◌≡◌, ◌∙◌, ℕ, List, get_or, Some, sym, ap}
use Rattle.pv_path.specs.Names.{same_bytes}
use Rattle.pv_folder.specs.declared.item.HostItem.{HostItem}
use Rattle.pv_folder.proofs.ListingLaws.{named_here, named_later}
use Rattle.pv_folder.proofs.reading.kind_named.Goals as goal

pub returns-then-eq : goal.returns-then-eq
returns-then-eq c =
    let item = c.item-item.result in
    let i = c.loop-item.item-index in
    let at : item ≡ get_or c.args.items.now i item = c.item-item.is in
    let test : c.eq.result ≡ same_bytes (get_or c.args.items.now i item).name c.args.name.now =
    c.eq.ensures ∙ ap (λ (n : List ℕ). same_bytes n c.args.name.now) (c.as_slice.ensures ∙ ap (λ (x : HostItem). x.name) at) in
    ap (λ (x : HostItem). Some x.kind) at
    ∙ sym (named_here c.args.name.now c.args.items.now i item c.loop-item-test.true c.loop-item.invariant c.eq.result test c.if-eq.true)

pub loop-item-preserved : goal.loop-item-preserved
loop-item-preserved c =
    let item = c.item-item.result in
    let i = c.loop-item.item-index in
    let at : item ≡ get_or c.args.items.now i item = c.item-item.is in
    let test : c.eq.result ≡ same_bytes (get_or c.args.items.now i item).name c.args.name.now =
    c.eq.ensures ∙ ap (λ (n : List ℕ). same_bytes n c.args.name.now) (c.as_slice.ensures ∙ ap (λ (x : HostItem). x.name) at) in
    named_later c.args.name.now c.args.items.now i item c.loop-item-test.true c.loop-item.invariant c.eq.result test c.if-eq.false
