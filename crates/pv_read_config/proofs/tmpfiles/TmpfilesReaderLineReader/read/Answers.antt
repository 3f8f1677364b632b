use Rattle.pv_read_config.specs.Known.{lookup_in}
use Rattle.pv_read_config.proofs.KnownLaws.{fault_is_read, fault_is_said, line_is_read, line_is_said}
use Rattle.pv_read_config.proofs.tmpfiles.TmpfilesReaderLineReader.read.Goals as goal

pub returns-in_ok-say_moved-in-Ok-clause-read : goal.returns-in_ok-say_moved-in-Ok-clause-read
returns-in_ok-say_moved-in-Ok-clause-read c =
    line_is_read c.args.self.now.facts.now (lookup_in c.args.self.now.names.passwd c.args.self.now.names.group) c.args.place.now c.in_ok-copy.field-0 c.args.line.now c.in_ok-copy.ensures c.in-Ok.line c.in-Ok.ensures.read

pub returns-in_ok-say_moved-in-Ok-clause-new_messages : goal.returns-in_ok-say_moved-in-Ok-clause-new_messages
returns-in_ok-say_moved-in-Ok-clause-new_messages c =
    line_is_said c.args.self.now.facts.now (lookup_in c.args.self.now.names.passwd c.args.self.now.names.group) c.args.place.now c.in_ok-copy.field-0 c.args.line.now c.in_ok-copy.ensures c.in-Ok.line
    c.args.messages.now c.say_moved.new.messages c.in-Ok.ensures.read c.in_ok-say_moved-in-Ok.ensures.ok

pub returns-in_ok-say_refused-in-Err : goal.returns-in_ok-say_refused-in-Err
returns-in_ok-say_refused-in-Err c =
    let lookup = lookup_in c.args.self.now.names.passwd c.args.self.now.names.group in
    record {
      read = fault_is_read c.args.self.now.facts.now lookup c.args.place.now c.in_ok-copy.field-0 c.args.line.now c.in_ok-copy.ensures c.in-Err.fault c.in-Err.ensures.read c.in_ok-say_refused-in-Err.ensures.known;
      whole = tt;
      new_messages = fault_is_said c.args.self.now.facts.now lookup c.args.place.now c.in_ok-copy.field-0 c.args.line.now c.in_ok-copy.ensures c.in-Err.fault
          c.args.messages.now c.say_refused.new.messages c.in-Err.ensures.read c.in_ok-say_refused-in-Err.ensures.known c.in_ok-say_refused-in-Err.ensures.ok;
      err = tt;
    }
