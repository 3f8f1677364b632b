use Rattle.pv_laws.proofs.CopyWays.{on_the_way, copies_on_the_way}
use Rattle.pv_laws.proofs.laws.on_the_way_each_path_is_between_two_lines.Goals as goal

pub returns : goal.returns
returns c = record {
  plain = λ lines now s t u tree are none quiet agree way. on_the_way lines now s t u tree quiet agree are none way;
  copies = λ lines now s t u tree are repeatable quiet agree way. copies_on_the_way lines now s t u tree quiet agree are repeatable way;
}
