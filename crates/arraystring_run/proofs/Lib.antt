mod RunLemmas
mod TightLemmas
mod CommandLemmas
mod LineLemmas
mod PrintLemmas
mod ServeLemmas
mod examples
