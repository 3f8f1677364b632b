use Rattle.std.proofs.Common.{◌≡◌, ◌∙◌, IfSome, ap, subst}
use Rattle.pv_path.specs.Paths.{Path}
use Rattle.pv_folder.specs.Content.{bytes_of, held, spelled}
use Rattle.pv_folder.specs.Folders.{manifest_path}
use Rattle.pv_folder.proofs.RoomLaws.{err_on, read_says, read_unsaid}
use Rattle.pv_folder.proofs.reading.read_manifest.Goals as goal

pub returns-clause-says : goal.returns-clause-says
returns-clause-says g c =
    let content = g.H.Host.content c.args.host.now in
    let folder = spelled c.args.folder.now in
    let at : IfSome content (λ k. c.in_ok-read.read ≡ bytes_of (held k (manifest_path folder))) =
    subst (λ (p : Path). IfSome content (λ k. c.in_ok-read.read ≡ bytes_of (held k p))) (ap spelled c.as_slice.ensures.value ∙ c.in_ok-place.ensures) c.in_ok-read.ensures.from_content in
    read_says content folder c.in_ok-read.read c.manifest_from.result at c.manifest_from.ensures.says

pub returns-clause-refused : goal.returns-clause-refused
returns-clause-refused g c =
    let content = g.H.Host.content c.args.host.now in
    let folder = spelled c.args.folder.now in
    let at : IfSome content (λ k. c.in_ok-read.read ≡ bytes_of (held k (manifest_path folder))) =
    subst (λ (p : Path). IfSome content (λ k. c.in_ok-read.read ≡ bytes_of (held k p))) (ap spelled c.as_slice.ensures.value ∙ c.in_ok-place.ensures) c.in_ok-read.ensures.from_content in
    err_on c.manifest_from.result (λ fault. read_unsaid content folder c.in_ok-read.read fault c.requires.prepared c.requires.there at) c.manifest_from.ensures.unsaid
