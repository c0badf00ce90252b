mod Powers
mod Again
