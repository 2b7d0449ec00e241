use Rattle.ebpf_report.proofs.totals_text.write_cache.Goals as goal

pub returns : goal.returns
returns c = rw (← c.from.ensures, ← c.from-2.ensures, ← c.from-3.ensures, ← c.from-4.ensures) c.write_line.ensures
