use Rattle.std.proofs.Common.{◌≡◌, ◌∙◌, List, Option, Some, None, IfSome, codes, is_some, sym, ap, subst}
use Rattle.pv_folder.specs.declared.item.HostItem.{HostItem}
use Rattle.pv_folder.specs.Content.{IsContent, held, listing, spelled}
use Rattle.pv_folder.specs.Folders.{IsPrepared, manifest_path}
use Rattle.pv_folder.specs.Opening.{IsRefused, not_prepared}
use Rattle.pv_folder.specs.declared.open_fault.OpenFault.TheVariants.{NotPrepared}
use Rattle.pv_folder.specs.Reading.{kind_named, lists_prepared}
use Rattle.pv_folder.proofs.GoingLaws.{is_prepared_so, manifest_there, no_folder, not_prepared_so, from_content, told_both}
use Rattle.pv_folder.proofs.reading.has_manifest.Goals as goal

pub returns-in_default-clause-refused : goal.returns-in_default-clause-refused
returns-in_default-clause-refused g c = λ own.
    let content = g.H.Host.content c.args.host.now in
    let folder = spelled c.args.folder.now in
    told_both (λ k. IsContent (held k)) (λ k. None ≡ listing k folder) (λ k. IsRefused folder k NotPrepared) content
    (λ k whole none. not_prepared (no_folder folder k whole (sym none)))
    c.list.ensures.content (subst (λ (o : Option (List HostItem)). IfSome content (λ k. o ≡ listing k folder)) c.in_default.is c.in_ok-items.ensures.from_content)

pub returns-then-not-is_prepared-clause-refused : goal.returns-then-not-is_prepared-clause-refused
returns-then-not-is_prepared-clause-refused g c = λ own.
    let content = g.H.Host.content c.args.host.now in
    let folder = spelled c.args.folder.now in
    let items = c.in-Some.items in
    from_content (λ k. Some items ≡ listing k folder) (λ k. IsRefused folder k NotPrepared) content
    (λ k lists. not_prepared (not_prepared_so folder k items (sym lists) (ap lists_prepared (sym c.as_slice.ensures.value) ∙ sym c.is_prepared.ensures ∙ c.if-not-is_prepared.true)))
    (subst (λ (o : Option (List HostItem)). IfSome content (λ k. o ≡ listing k folder)) c.in-Some.is c.in_ok-items.ensures.from_content)

pub returns-clause-prepared : goal.returns-clause-prepared
returns-clause-prepared g c =
    let content = g.H.Host.content c.args.host.now in
    let folder = spelled c.args.folder.now in
    let items = c.in-Some.items in
    from_content (λ k. Some items ≡ listing k folder) (λ k. IsPrepared folder (held k)) content
    (λ k lists. is_prepared_so folder k items (sym lists) (ap lists_prepared (sym c.as_slice.ensures.value) ∙ sym c.is_prepared.ensures ∙ c.if-not-is_prepared.false))
    (subst (λ (o : Option (List HostItem)). IfSome content (λ k. o ≡ listing k folder)) c.in-Some.is c.in_ok-items.ensures.from_content)

pub returns-clause-there : goal.returns-clause-there
returns-clause-there g c =
    let content = g.H.Host.content c.args.host.now in
    let folder = spelled c.args.folder.now in
    let items = c.in-Some.items in
    from_content (λ k. Some items ≡ listing k folder) (λ k. c.is_some.result ≡ is_some (held k (manifest_path folder))) content
    (λ k lists. c.is_some.ensures ∙ ap is_some (c.kind_named.ensures ∙ ap (kind_named (codes "manifest")) c.as_slice-2.ensures.value) ∙ manifest_there folder k items (sym lists))
    (subst (λ (o : Option (List HostItem)). IfSome content (λ k. o ≡ listing k folder)) c.in-Some.is c.in_ok-items.ensures.from_content)
