-- What a stage that ends leaves of the times.
use Rattle.std.specs.Prelude.{ℕ, ◌-◌, ◌/◌, ◌^◌, nat_lt, Option, Some, None, if◌then◌else◌}
use Rattle.std.specs.Time.{instant_nanos}
use Rattle.std.specs.declared.time.Instant.{Instant}
use Rattle.ebpf_report.specs.declared.meter.Stage.{Stage}
use Rattle.ebpf_report.specs.declared.meter.Stage.TheVariants.{Reading, Judging, Running, Writing}
use Rattle.ebpf_report.specs.declared.watch.Times.{Times}

-- a time that is too long for a number of eight bytes is not known
abbrev pub known_time : ℕ → Option ℕ
known_time time = if nat_lt time (2 ^ 64) then Some time else None

-- the whole microseconds from one reading of the clock to a later one, where there are both
abbrev pub micros_between : Option Instant → Option Instant → Option ℕ
micros_between (Some from) (Some to) = known_time ((instant_nanos to - instant_nanos from) / 1000)
micros_between (Some from) None = None
micros_between None to = None

-- the time of one stage is set, and the others are as they were
abbrev pub with_time : Stage → Option ℕ → Times → Times
with_time Reading time times = record times { reading = time }
with_time Judging time times = record times { judging = time }
with_time Running time times = record times { running = time }
with_time Writing time times = record times { writing = time }
