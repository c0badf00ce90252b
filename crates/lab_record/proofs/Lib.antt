mod PlayingLemmas
mod StaticLemmas
mod SightLemmas
mod EndingLemmas
mod LogLemmas
mod EventLemmas
mod RecordingLemmas
mod SteadyLemmas
