use Rattle.pv_laws.proofs.AllFrames.{run_frame, stopped_frame}
use Rattle.pv_laws.proofs.laws.what_no_line_governs_stays.Goals as goal

pub returns : goal.returns
returns c = record {
  whole = λ lines now t q tree are plain free. run_frame now q plain lines are free t tree;
  stopped = λ lines now t u q tree are plain free way. stopped_frame now q plain lines are free t tree u way;
}
