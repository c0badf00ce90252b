-- the libraries below that those above cite through this one
pub use Rattle.mc_words as mc_words
pub use Rattle.mc_streams as mc_streams
