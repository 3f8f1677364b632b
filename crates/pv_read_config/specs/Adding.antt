-- What reading adds to a configuration and to the messages (this project's own).
use Rattle.std.specs.Prelude.{◌≡◌, ℕ, ◌+◌, ◌^◌, ◌<◌, ◌||◌, List, ◌++◌}
use Rattle.pv_read_config.specs.Configuration.{Configured, Reading}
use Rattle.pv_read_config.specs.declared.configuration.Configuration.{Configuration}

-- What was read is added to a configuration and to the messages: its lines, whether one is invalid, its count and its
-- messages. Whether a FILE argument is missing does not change. If the count of lines was below 2^32, it still is.
pub record Adds {L : Type 0} (reading : Reading L) (old new : Configuration L) (new_messages stated : List (List ℕ)) : Type 0 where
  pub lines : new.lines ≡ old.lines ++ reading.lines
  pub invalid : new.invalid ≡ (old.invalid || reading.invalid)
  pub missing : new.missing ≡ old.missing
  pub count : new.count ≡ old.count + reading.count
  pub few : old.count < 2 ^ 32 → new.count < 2 ^ 32
  pub messages : stated ≡ new_messages ++ reading.messages

-- A configuration is the one that was to be read, and its count of lines is below 2^32.
pub record Reads {L : Type 0} (wanted : Configured L) (c : Configuration L) : Type 0 where
  pub lines : c.lines ≡ wanted.lines
  pub invalid : c.invalid ≡ wanted.invalid
  pub missing : c.missing ≡ wanted.missing
  pub count : c.count ≡ wanted.count
  pub few : c.count < 2 ^ 32
