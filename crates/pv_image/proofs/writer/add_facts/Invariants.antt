use Rattle.std.proofs.Common.{◌≡◌, ◌<◌, ◌++◌, true, take}
use Rattle.std.specs.List.{flat_map, list_all}
use Rattle.pv_text.specs.Facts.{fact_letters, HasFactsAlone}
use Rattle.pv_image.specs.Writing.{fact_fits, fact_line_of}
use Rattle.pv_image.proofs.writer.add_facts.Given as goal

abbrev pub invariant-loop-letter : goal.invariant-loop-letter
invariant-loop-letter l = record {
  written : l.output.items ≡ l.initial.output.items ++ flat_map (fact_line_of l.facts) (take l.letter-index fact_letters);
  fit : list_all (fact_fits l.facts) (take l.letter-index fact_letters) ≡ true;
  alone : 0 < l.letter-index → HasFactsAlone l.facts;
}
