mod KeptTexts
mod NamedAtMost
