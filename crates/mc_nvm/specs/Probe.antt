-- A view of a device that counts its reads.
use Rattle.mc_nvm.specs.declared.probe.Probe.{Probe}

-- the device that a probe reads
abbrev pub device_of_probe : {N L : Type 0} → Probe N L → N
device_of_probe p = p.device.now
