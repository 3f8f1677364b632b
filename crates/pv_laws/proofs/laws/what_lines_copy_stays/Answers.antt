use Rattle.pv_laws.proofs.Frozen.{source_after, source_partway}
use Rattle.pv_laws.proofs.laws.what_lines_copy_stays.Goals as goal

pub returns : goal.returns
returns c = record {
  whole = λ lines j copier source q now t are repeatable there copies under named plain tree.
      source_after lines are repeatable source j copier there copies q under named plain now t tree;
  stopped = λ lines j copier source q now t u are repeatable there copies under named plain tree way.
      source_partway lines are repeatable source j copier there copies q under named plain now t tree u way;
}
