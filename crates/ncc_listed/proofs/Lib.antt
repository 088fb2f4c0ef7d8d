mod DecimalNumbers
mod OneList
