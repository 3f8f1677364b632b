use Rattle.std.proofs.Common.{◌+◌, ◌<◌, ◌^◌, length, []}
use Rattle.std.specs.FinMap as fin
use Rattle.pv_image.specs.declared.version.Version.{Version}
use Rattle.pv_image.specs.Images.{InFacts}
use Rattle.pv_image.specs.Progress.{FactsRead, IsLast, Leads}
use Rattle.pv_image.proofs.reader.read_facts.Given as goal

abbrev pub invariant-loop-text : goal.invariant-loop-text
invariant-loop-text l = record {
  leads : (version : Version) → Leads l.left.number (InFacts version []) l.left.bytes.now l.number (InFacts version (fin.entries l.facts)) l.rest;
  facts : FactsRead l.left.bytes.now l.facts l.rest;
  last : IsLast l.facts l.last;
  small : l.number + length l.rest < 2 ^ 64;
}

abbrev pub decreases-loop-text : goal.decreases-loop-text
decreases-loop-text l = length l.rest
