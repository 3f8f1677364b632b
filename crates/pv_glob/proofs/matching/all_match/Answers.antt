use Rattle.std.proofs.Common.{rules, tests, ◌∙◌}
use Rattle.std.specs.Iterator.Adapters.{zip_first, zip_second}
use Rattle.std.proofs.lemmas.Iterator.{YieldsList-from_slice, YieldsList-from_zip}
use Rattle.std.proofs.lemmas.Iterator.Search.{all_from_yields_List}
use Rattle.pv_glob.specs.Matching.{component_matches}
use Rattle.pv_glob.proofs.Zipped.{list_all-zip}
use Rattle.pv_glob.proofs.matching.all_match.Goals as goal

pub returns : goal.returns
returns c =
    let first = YieldsList-from_slice {s = zip_first c.zip.result} c.args.components.now (cc) in
    let second = YieldsList-from_slice {s = zip_second c.zip.result} c.args.names.now (cc) in
    let pairs = YieldsList-from_zip {s = c.zip.result} first second in
    all_from_yields_List (λ p. component_matches p.0 p.1) c.all.new.self _ c.all.result c.all.ensures.ran pairs (λ x b q k. search (rules, tests))
    ∙ list_all-zip component_matches c.args.components.now c.args.names.now c.requires
