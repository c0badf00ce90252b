mod FreeWords
mod Alike
mod OnDevice
mod Possible
