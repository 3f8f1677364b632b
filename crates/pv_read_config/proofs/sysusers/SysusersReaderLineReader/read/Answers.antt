use Rattle.pv_read_config.proofs.RequestedLaws.{fault_is_read, fault_is_said}
use Rattle.pv_read_config.proofs.sysusers.SysusersReaderLineReader.read.Goals as goal

pub returns-in_ok-say_refused-in-Err : goal.returns-in_ok-say_refused-in-Err
returns-in_ok-say_refused-in-Err c =
    record {
      read = fault_is_read c.args.self.now.facts.now c.args.place.now c.in_ok-copy.field-0 c.args.line.now c.in_ok-copy.ensures c.in-Err.fault c.in-Err.ensures.gives c.in_ok-say_refused-in-Err.ensures.known;
      whole = tt;
      new_messages = fault_is_said c.args.self.now.facts.now c.args.place.now c.in_ok-copy.field-0 c.args.line.now c.in_ok-copy.ensures c.in-Err.fault
          c.args.messages.now c.say_refused.new.messages c.in-Err.ensures.gives c.in_ok-say_refused-in-Err.ensures.known c.in_ok-say_refused-in-Err.ensures.ok;
      err = tt;
    }
