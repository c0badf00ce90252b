mod SearchLemmas
mod ShadowLemmas
mod FirstLemmas
mod WordLemmas
mod DepthLemmas
mod HaltLemmas
