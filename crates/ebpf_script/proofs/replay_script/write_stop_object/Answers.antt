use Rattle.ebpf_script.proofs.replay_script.write_stop_object.Goals as goal

pub returns : goal.returns
returns c = rw (← c.apply_name-code.ensures) c.write.ensures.bytes
