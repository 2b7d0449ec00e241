use Rattle.std.proofs.Common.{refl}
use Rattle.ebpf_host_c.proofs.reported.write_at.Goals as goal

pub returns : goal.returns
returns g c = record {
  filled = c.write_report.new.report;
  is = refl;
  written = record {
    exited = c.write_report.ensures.exited;
    exit = c.write_report.ensures.exit;
    executed = c.write_report.ensures.executed;
    peak = c.write_report.ensures.peak;
    outputs = c.write_report.ensures.outputs;
    numbers = c.write_report.ensures.numbers;
    granted = c.write_report.ensures.granted;
    refused = c.write_report.ensures.refused;
    fetched = c.write_report.ensures.fetched;
    missed = c.write_report.ensures.missed;
  };
}
