-- What a watched device shows.
use Rattle.gltf_base.specs.Device.{Seen}
use Rattle.gltf_base.specs.declared.watched.Watched.{Watched}

-- the device that is watched
abbrev pub device_of : {D : Type 0} → Watched D → D
device_of watched = watched.device

-- what its reads have shown, and whether any call has failed
abbrev pub seen_of : {D : Type 0} → Watched D → Seen
seen_of watched = record { has_failed = watched.failed; calls = watched.calls; given = watched.given; has_ended = watched.ended }
