use Rattle.std.proofs.Common.{Ok, ap}
use Rattle.pv_folder.specs.Content.{spelled}
use Rattle.pv_folder.specs.Memory.{content_of}
use Rattle.pv_folder.proofs.Held.{is_content, not_read_there}
use Rattle.pv_folder.proofs.mem_host.MemHostHost.read_file.Goals as goal

pub returns-in_err-begin_call-clause-content : goal.returns-in_err-begin_call-clause-content
returns-in_err-begin_call-clause-content c = is_content c.args.self.now.tree.files c.args.self.now.tree.tree

pub returns-in_err-path-clause-content : goal.returns-in_err-path-clause-content
returns-in_err-path-clause-content c = is_content c.args.self.now.tree.files c.args.self.now.tree.tree

pub returns-in_err-file_bytes-in-Some-clause-content : goal.returns-in_err-file_bytes-in-Some-clause-content
returns-in_err-file_bytes-in-Some-clause-content c = is_content c.args.self.now.tree.files c.args.self.now.tree.tree

pub returns-in_ok-file_bytes-in-Some-clause-content : goal.returns-in_ok-file_bytes-in-Some-clause-content
returns-in_ok-file_bytes-in-Some-clause-content c = is_content c.args.self.now.tree.files c.args.self.now.tree.tree

pub returns-in-None-clause-from_content : goal.returns-in-None-clause-from_content
returns-in-None-clause-from_content c =
    not_read_there (content_of c.args.self.now.tree.files) (is_content c.args.self.now.tree.files c.args.self.now.tree.tree) (spelled c.args.path.now) (c.in_ok-path.ensures.none (ap Ok c.in-None.is))

pub returns-in-None-clause-content : goal.returns-in-None-clause-content
returns-in-None-clause-content c = is_content c.args.self.now.tree.files c.args.self.now.tree.tree
