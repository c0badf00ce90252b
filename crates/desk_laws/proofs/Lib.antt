mod SelfLines
mod SelfParts
mod Words
mod Results
mod StableOperands
mod StableLines
mod StableStatements
mod SelfDecks
