mod Marked
mod Elements
mod WholeTexts
mod SqueueTexts
mod CheckValues
mod Sums
mod SummaryParts
mod Worked
