mod CommandFacts
mod PlayFacts
