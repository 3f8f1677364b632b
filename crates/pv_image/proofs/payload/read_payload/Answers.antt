use Rattle.std.proofs.Common.{Option, sym, subst}
use Rattle.pv_image.specs.declared.payload.Payload.{Payload}
use Rattle.pv_image.specs.Spelling.{IsPayload, payload_text}
use Rattle.pv_image.specs.Reading.{Reads}
use Rattle.pv_image.proofs.Contents.{device_reads, other_reads}
use Rattle.pv_image.proofs.payload.read_payload.Goals as goal

pub returns-in_ok-read_numbers-in-CharDevice : goal.returns-in_ok-read_numbers-in-CharDevice
returns-in_ok-read_numbers-in-CharDevice c =
    subst (λ (o : Option Payload). Reads (payload_text c.args.kind) (IsPayload c.args.kind) c.args.text.now o) (sym c.of_numbers.ensures)
    (device_reads c.args.kind c.args.text.now c.in_ok-read_numbers-in-CharDevice.field-0 c.in-CharDevice.is c.in_ok-read_numbers-in-CharDevice.ensures)

pub returns-in-Directory : goal.returns-in-Directory
returns-in-Directory c =
    subst (λ (o : Option Payload). Reads (payload_text c.args.kind) (IsPayload c.args.kind) c.args.text.now o) (sym c.of_bytes-in-Directory.ensures)
    (other_reads c.args.kind c.args.text.now c.read_nothing.result c.in-Directory.is c.read_nothing.ensures)
