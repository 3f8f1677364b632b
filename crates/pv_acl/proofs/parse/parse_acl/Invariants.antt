use Rattle.std.proofs.Common.{◌≡◌, true, drop, map, Ok}
use Rattle.pv_acl.specs.Applying.{is_line}
use Rattle.pv_acl.specs.Entries.{text_entry_of, line_of}
use Rattle.pv_acl.proofs.Lines.{then_line}
use Rattle.pv_path.proofs.Tests.{texts}
use Rattle.pv_acl.proofs.parse.parse_acl.Given as goal

abbrev pub invariant-loop-text : goal.invariant-loop-text
invariant-loop-text g l =
    record {
      read : then_line (Ok l.line) (line_of (map (text_entry_of (g.N.Names.uid_named l.fn.names) (g.N.Names.gid_named l.fn.names)) (drop l.text-index (texts l.text-items))))
          ≡ line_of (map (text_entry_of (g.N.Names.uid_named l.fn.names) (g.N.Names.gid_named l.fn.names)) (texts l.text-items));
      allowed : is_line l.line ≡ true;
    }
